-- The versions that the words of an order want.
use Rattle.std.proofs.Common.{◌≡◌, ℕ, ◌+◌, ◌<◌, Bool, List, [], ◌∷◌, length, take, sym, subst, get_or}
use Rattle.std.specs.Prelude.{Option, Some, None}
use Rattle.std.proofs.lemmas.List.{take_more}
use Rattle.spec_document.proofs.Elements.{all-append, all-each}
use Rattle.spec_text.specs.declared.OrderWord.{OrderWord}
use Rattle.spec_audit.specs.Output.{Printed}
use Rattle.spec_audit.specs.Walk.{printed_at}
use Rattle.spec_script.specs.Script.{Line}
use Rattle.xl_judging.specs.Calls.{line_in}
use Rattle.xl_judging.specs.Versions.{version_named, WantsIfAny, WantsMore, WantsOfWord, AreWanted}

pub wants_more : (old new : List Bool) (named : Option ℕ) → WantsMore old new → WantsIfAny old named → WantsIfAny new named
wants_more old new None more wants = tt
wants_more old new (Some v) more wants = λ le. more v (wants le)

words_more : (calls : List (List Line)) (replies : List (List Printed)) (old new : List Bool) (ws : List OrderWord) → WantsMore old new
    → AreWanted calls replies old ws → AreWanted calls replies new ws
words_more calls replies old new ws more all =
    all-each (WantsOfWord calls replies old) (WantsOfWord calls replies new) ws
    (λ w wants. wants_more old new (version_named (line_in calls w) (printed_at replies w).reply) more wants) all

-- the words before a place want no others
pub record AreWantedTo (calls : List (List Line)) (replies : List (List Printed)) (order : List OrderWord) (place : ℕ) (wanted : List Bool)
    : Type 0 where
  pub all : AreWanted calls replies wanted (take place order)

-- one word more
pub wanted_more : (calls : List (List Line)) (replies : List (List Printed)) (order : List OrderWord) (place : ℕ) (d : OrderWord)
    (old new : List Bool) → AreWantedTo calls replies order place old → place < length order → WantsMore old new
    → WantsOfWord calls replies new (get_or order place d) → AreWantedTo calls replies order (place + 1) new
wanted_more calls replies order place d old new before lt more here = record {
  all = subst (AreWanted calls replies new) (sym (take_more order place d lt))
      (all-append (WantsOfWord calls replies new) (take place order) (get_or order place d ∷ [])
      (words_more calls replies old new (take place order) more before.all) (here, tt));
}

-- the same, where the words are read from a list that is the order
pub wanted_on : (calls : List (List Line)) (replies : List (List Printed)) (order items : List OrderWord) (place : ℕ) (d : OrderWord)
    (old new : List Bool) → items ≡ order → AreWantedTo calls replies order place old → place < length items → WantsMore old new
    → WantsOfWord calls replies new (get_or items place d) → AreWantedTo calls replies order (place + 1) new
wanted_on calls replies order items place d old new is before lt more here =
    wanted_more calls replies order place d old new before (subst (λ (ws : List OrderWord). place < length ws) is lt) more
    (subst (λ (ws : List OrderWord). WantsOfWord calls replies new (get_or ws place d)) is here)
