-- The turns of a talk, one line more.
use Rattle.std.proofs.Common.{◌≡◌, ℕ, suc, ◌+◌, List, [], ◌∷◌, ◌++◌, length, sym, ap, ◌∙◌, subst, arith, append_assoc, append-nil}
use Rattle.std.proofs.lemmas.List.Concat.{flat_map-append, flat_map-cons}
use Rattle.spec_document.specs.Document.{Document}
use Rattle.spec_history.specs.History.{Entry}
use Rattle.spec_serve.specs.Hearing.{Hearing, hear}
use Rattle.spec_serve.specs.Said.{Said, entry_in, entries_of, all_said, AreSaid}
use Rattle.spec_serve.specs.Talk.{IsTurn, AreTurns}
use Rattle.xl_serve.specs.Standing.{heard_from}

pub turns_more : (number : ℕ) (h : Hearing) (lines : List (List ℕ)) (turns : List (List Said)) (line : List ℕ) (turn : List Said)
    → AreTurns number h lines turns
    → IsTurn (number + length lines) (hear (number + length lines) line (heard_from number h lines)).asks turn
    → AreTurns number h (lines ++ line ∷ []) (turns ++ turn ∷ [])
turns_more number h [] [] line turn are is =
    let zero : number + 0 ≡ number = omega arith in (subst (λ n. IsTurn n (hear n line h).asks turn) zero is, tt)
turns_more number h [] (t ∷ turns) line turn are is = absurd are
turns_more number h (l ∷ lines) [] line turn are is = absurd are
turns_more number h (l ∷ lines) (t ∷ turns) line turn are is =
    let next : number + length (l ∷ lines) ≡ suc number + length lines = omega arith in
    let then = heard_from (suc number) (hear number l h).hearing lines in (
      are.0,
      turns_more (suc number) (hear number l h).hearing lines turns line turn are.1
          (subst (λ n. IsTurn n (hear n line then).asks turn) next is),
    )

pub heard_more : (number : ℕ) (h : Hearing) (lines : List (List ℕ)) (line : List ℕ)
    → heard_from number h (lines ++ line ∷ []) ≡ (hear (number + length lines) line (heard_from number h lines)).hearing
heard_more number h [] line =
    let zero : number ≡ number + 0 = omega arith in ap (λ n. (hear n line h).hearing) zero
heard_more number h (l ∷ lines) line =
    let next : suc number + length lines ≡ number + length (l ∷ lines) = omega arith in
    let then = heard_from (suc number) (hear number l h).hearing lines in
    heard_more (suc number) (hear number l h).hearing lines line ∙ ap (λ n. (hear n line then).hearing) next

pub all_more : (turns : List (List Said)) (turn : List Said) → all_said (turns ++ turn ∷ []) ≡ all_said turns ++ turn
all_more turns turn =
    flat_map-append (λ (said : List Said). said) turns (turn ∷ [])
    ∙ ap (λ (last : List Said). all_said turns ++ last)
    (flat_map-cons (λ (said : List Said). said) turn [] ∙ append-nil turn)

pub said_more : (base : Document) (earlier : List Entry) (said more : List Said) → AreSaid base earlier said
    → AreSaid base (earlier ++ entries_of said) more → AreSaid base earlier (said ++ more)
said_more base earlier [] more are also = subst (λ (es : List Entry). AreSaid base es more) (append-nil earlier) also
said_more base earlier (s ∷ said) more are also = (
  are.0,
  said_more base (earlier ++ entry_in s) said more are.1
      (subst (λ (es : List Entry). AreSaid base es more)
      (ap (λ (es : List Entry). earlier ++ es) (flat_map-cons entry_in s said) ∙ sym (append_assoc earlier (entry_in s) (entries_of said)))
      also),
)
