-- The front of two seats that were joined.
use Rattle.std.proofs.Common.{◌≡◌, ℕ, Bool, true, false, cond, ltb, List, length, sym, ap, ◌∙◌, subst, arith}
use Rattle.std.specs.Prelude.{max}
use mathlib.Core.List.{IsPrefix}
use Rattle.spec_document.specs.Document.{Document}
use Rattle.spec_history.specs.History.{latest_of}
use Rattle.spec_history.specs.Kept.{IsLegal}
use Rattle.xl_turn.specs.Turns.{longer}
use Rattle.xl_turn.proofs.Fronts.{prefix_trans}
use Rattle.xl_studio.specs.declared.moment.Moment.{Moment}
use Rattle.xl_studio.specs.Moments.{entries_in}
use Rattle.xl_studio.specs.Seats.{IsFront}
use Rattle.xl_studio.proofs.Grown.{entries-prefix}
use Rattle.xl_studio.proofs.Seated.{latest_prefix}

module _ {K : Type 0} where
  -- the front is one of the two, and the other begins it
  joined_where : (opening : List (Moment K)) (base : Document) (start start' : ℕ) (xs ys front : List (Moment K)) (a b : ℕ)
      (second : Bool) → IsFront opening base start xs a → IsFront opening base start' ys b
      → IsPrefix xs front → IsPrefix ys front → front ≡ cond second ys xs → IsFront opening base start front (max a b)
  joined_where opening base start start' xs ys front a b true one two p q is =
      let l : latest_of (entries_in front) ≡ latest_of (entries_in ys) =
      ap (λ (ms : List (Moment K)). latest_of (entries_in ms)) is in
      let le = latest_prefix (entries_in xs) (entries_in front) (entries-prefix xs front p) in
      let s = one.seen_is in
      let t = two.seen_is in
      record {
        start_is = one.start_is;
        begins = prefix_trans opening xs front one.begins p;
        legal = subst (λ (ms : List (Moment K)). IsLegal base (entries_in ms)) (sym is) two.legal;
        seen_is = omega arith;
      }
  joined_where opening base start start' xs ys front a b false one two p q is =
      let l : latest_of (entries_in front) ≡ latest_of (entries_in xs) =
      ap (λ (ms : List (Moment K)). latest_of (entries_in ms)) is in
      let le = latest_prefix (entries_in ys) (entries_in front) (entries-prefix ys front q) in
      let s = one.seen_is in
      let t = two.seen_is in
      record {
        start_is = one.start_is;
        begins = prefix_trans opening xs front one.begins p;
        legal = subst (λ (ms : List (Moment K)). IsLegal base (entries_in ms)) (sym is) one.legal;
        seen_is = omega arith;
      }

  pub front_joined : (opening : List (Moment K)) (base : Document) (start start' start'' : ℕ) (xs ys front : List (Moment K))
      (a b seen : ℕ) → IsFront opening base start xs a → IsFront opening base start' ys b
      → IsPrefix xs front → IsPrefix ys front → front ≡ longer xs ys → seen ≡ max a b → start'' ≡ start
      → IsFront opening base start'' front seen
  front_joined opening base start start' start'' xs ys front a b seen one two p q is most stays =
      let f = joined_where opening base start start' xs ys front a b (ltb (length xs) (length ys)) one two p q is in
      record { start_is = stays ∙ f.start_is; begins = f.begins; legal = f.legal; seen_is = most ∙ f.seen_is }
