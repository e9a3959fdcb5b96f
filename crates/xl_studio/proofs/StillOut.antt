-- Which save is out after more moments, and that one which was begun with this seat is still out.
use Rattle.std.proofs.Common.{◌≡◌, ℕ, suc, ◌+◌, ◌-◌, ◌<◌, ◌≤◌, true, false, List, [], ◌∷◌, ◌++◌, length, take, Option}
use Rattle.std.proofs.Common.{Some, None, refl, sym, ap, ◌∙◌, subst, arith, append_assoc, length-append}
use Rattle.std.specs.Prelude.{is_some}
use Rattle.std.proofs.lemmas.List.{append-nil}
use Rattle.std.proofs.Math.Seq.{take-append-add}
use mathlib.Core.List.{IsPrefix}
use Rattle.spec_document.specs.Document.{Document}
use Rattle.spec_history.specs.Machine.{State, initial}
use Rattle.spec_history.specs.History.{Kind, asked, starts, ends, Entry, after_kind, after_entry, replay_from, replay}
use Rattle.spec_history.specs.History.{MayBe, RunFrom}
use Rattle.spec_history.specs.Kept.{IsLegal}
use Rattle.spec_history.proofs.Growing.{out-answer}
use Rattle.xl_turn.specs.Sums.{times}
use Rattle.xl_turn.specs.Turns.{IsClosed}
use Rattle.xl_studio.specs.declared.moment.Moment.{Moment}
use Rattle.xl_studio.specs.declared.moment.Moment.TheVariants.{Opened, Made}
use Rattle.xl_studio.specs.Moments.{IsAsked, AreAsked, entries_in, out_with, out_next, out_from, place_out}
use Rattle.xl_studio.specs.Moments.{closed_with, closed_next, closed_from, closed_by}
use Rattle.xl_studio.proofs.Grown.{entries-append}

pub run_rest : (base : Document) (s : State) (earlier xs ys : List Entry) → RunFrom base s earlier (xs ++ ys)
    → RunFrom base (replay_from base s xs) (earlier ++ xs) ys
run_rest base s earlier [] ys run = subst (λ (es : List Entry). RunFrom base s es ys) (sym (append-nil earlier)) run
run_rest base s earlier (x ∷ xs) ys run =
    subst (λ (es : List Entry). RunFrom base (replay_from base (after_entry base s x) xs) es ys) (append_assoc earlier (x ∷ []) xs)
    (run_rest base (after_entry base s x) (earlier ++ x ∷ []) xs ys run.1)

-- a save that is out is not begun again, and an end would close it
asked_only : (base : Document) (s : State) (earlier : List Entry) (e : Entry) (k : Kind) (at : ℕ) → MayBe base s earlier e k
    → is_some s.out ≡ true → (closed_with (Some at) k ≡ Some at → ⊥) → IsAsked k
asked_only base s earlier e (asked call tables) at may going none = tt
asked_only base s earlier e starts at may going none = let never : false ≡ true = ap is_some (sym may.1) ∙ going in absurd cc
asked_only base s earlier e ends at may going none = none refl

pub out_stays : (base : Document) (s : State) (e : Entry) (k : Kind) → IsAsked k → (after_kind base s e k).out ≡ s.out
out_stays base s e (asked call tables) is = out-answer base s call tables
out_stays base s e starts is = absurd is
out_stays base s e ends is = absurd is

pub out_with-asked : (n : ℕ) (out : Option ℕ) (k : Kind) → IsAsked k → out_with n out k ≡ out
out_with-asked n out (asked call tables) is = refl
out_with-asked n out starts is = absurd is
out_with-asked n out ends is = absurd is

module _ {K : Type 0} where
  pub out-append : (n : ℕ) (out : Option ℕ) (xs ys : List (Moment K))
      → out_from n out (xs ++ ys) ≡ out_from (n + length xs) (out_from n out xs) ys
  out-append n out [] ys = let z : n ≡ n + 0 = omega arith in ap (λ m. out_from m out ys) z
  out-append n out (x ∷ xs) ys =
      let s : n + 1 + length xs ≡ n + suc (length xs) = omega arith in
      out-append (n + 1) (out_next n out x) xs ys ∙ ap (λ m. out_from m (out_from (n + 1) (out_next n out x) xs) ys) s

  pub place_out-snoc : (xs : List (Moment K)) (m : Moment K) → place_out (xs ++ m ∷ []) ≡ out_next (length xs) (place_out xs) m
  place_out-snoc xs m =
      let z : 0 + length xs ≡ length xs = omega arith in out-append 0 None xs (m ∷ []) ∙ ap (λ n. out_next n (place_out xs) m) z

  closed-last : (n : ℕ) (out : Option ℕ) (xs : List (Moment K)) (m : Moment K)
      → closed_from n out (xs ++ m ∷ []) ≡ closed_next (out_from n out xs) m
  closed-last n out [] m = refl
  closed-last n out (x ∷ []) m = refl
  closed-last n out (x ∷ y ∷ xs) m = closed-last (n + 1) (out_next n out x) (y ∷ xs) m

  pub closed_by-snoc : (xs : List (Moment K)) (m : Moment K) → closed_by (xs ++ m ∷ []) ≡ closed_next (place_out xs) m
  closed_by-snoc xs m = closed-last 0 None xs m

  -- none of the later moments closes the place
  abbrev NoneCloses : ℕ → List (Moment K) → ℕ → Type 0
  NoneCloses at xs n = (i : ℕ) → n ≤ i → i < length xs → closed_by (take (i + 1) xs) ≡ Some at → ⊥

  none_further : (at : ℕ) (front : List (Moment K)) (m : Moment K) (ms : List (Moment K))
      → NoneCloses at (front ++ m ∷ ms) (length front) → NoneCloses at ((front ++ m ∷ []) ++ ms) (length (front ++ m ∷ []))
  none_further at front m ms none = λ i le lt c.
      none i (omega (arith, length-append front (m ∷ []))) (omega (arith, ap length (append_assoc front (m ∷ []) ms)))
      (ap (λ l. closed_by (take (i + 1) l)) (sym (append_assoc front (m ∷ []) ms)) ∙ c)

  none_first : (at : ℕ) (front : List (Moment K)) (m : Moment K) (ms : List (Moment K)) → place_out front ≡ Some at
      → NoneCloses at (front ++ m ∷ ms) (length front) → closed_next (Some at) m ≡ Some at → ⊥
  none_first at front m ms out none is =
      let cut : take (length front + 1) (front ++ m ∷ ms) ≡ front ++ m ∷ [] = take-append-add front (m ∷ ms) 1 in
      none (length front) (omega arith) (omega (arith, length-append front (m ∷ ms))) (ap closed_by cut
      ∙ (closed_by-snoc front m ∙ (ap (λ o. closed_next o m) out ∙ is)))

  only_asked : (base : Document) (s : State) (earlier : List Entry) (front rest : List (Moment K)) (at : ℕ)
      → RunFrom base s earlier (entries_in rest)
      → is_some s.out ≡ true → place_out front ≡ Some at → NoneCloses at (front ++ rest) (length front) → AreAsked (entries_in rest)
  only_asked base s earlier front [] at run going out none = tt
  only_asked base s earlier front (Opened b k ∷ ms) at run going out none =
      only_asked base s earlier (front ++ Opened b k ∷ []) ms at run going (place_out-snoc front (Opened b k)
      ∙ out) (none_further at front (Opened b k) ms none)
  only_asked base s earlier front (Made e handed ∷ ms) at run going out none =
      let is : IsAsked e.kind = asked_only base s earlier e e.kind at run.0 going
      (none_first at front (Made e handed) ms out none) in
      let further : place_out (front ++ Made e handed ∷ []) ≡ Some at = place_out-snoc front (Made e handed)
      ∙ (ap (λ o. out_with (length front) o e.kind) out ∙ out_with-asked (length front) (Some at) e.kind is) in (
        is,
        only_asked base (after_entry base s e) (earlier ++ e ∷ []) (front
            ++ Made e handed ∷ []) ms at run.1 (ap is_some (out_stays base s e e.kind is)
            ∙ going) further (none_further at front (Made e handed) ms none),
      )

  -- Since the save was begun there were only calls: its end would stand among the places made, and no other save
  -- begins while it is out.
  pub only_calls : (base : Document) (front xs : List (Moment K)) (made : List ℕ) (start at : ℕ) → (begins : IsPrefix front xs)
      → IsLegal base (entries_in xs)
      → place_out front ≡ Some at → is_some (replay base (entries_in front)).out ≡ true → start ≤ at → at < length front
      → 0 < times (at - start) made → ((i : ℕ) → 0 < times i made → start + i < length front) → IsClosed closed_by start xs made
      → AreAsked (entries_in begins.0)
  only_calls base front xs made start at begins legal out going from lt has below closed =
      let rest : List (Moment K) = begins.0 in
      let es : entries_in xs ≡ entries_in front ++ entries_in rest = sym (ap entries_in begins.1) ∙ entries-append front rest in
      let run : RunFrom base (replay base (entries_in front)) (entries_in front) (entries_in rest) =
      run_rest base (initial base) [] (entries_in front) (entries_in rest)
      (subst (λ (l : List Entry). RunFrom base (initial base) [] l) es legal.run) in
      let none : NoneCloses at (front ++ rest) (length front) = λ i le l c.
      let l' : i < length xs = omega (arith, ap length begins.1) in
      let c' : closed_by (take (i + 1) xs) ≡ Some at = ap (λ ys. closed_by (take (i + 1) ys)) (sym begins.1) ∙ c in
      let number : i + 1 ≡ start + (i - start) + 1 = omega arith in
      let place : at ≡ start + (at - start) = omega arith in
      let mine : 0 < times (i - start) made =
      closed (i - start) (at - start) (
        omega arith,
        omega arith,
        ap (λ n. closed_by (take n xs)) (sym number)
            ∙ (c' ∙ ap Some place),
      ) has in
      let b = below (i - start) mine in
      omega arith in
      only_asked base (replay base (entries_in front)) (entries_in front) front rest at run going out none
