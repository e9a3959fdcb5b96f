-- A seat draws a ticket.
use Rattle.std.proofs.Common.{◌≡◌, ℕ, ◌+◌, ◌%◌, ◌^◌, ◌<◌, List, [], ◌∷◌, length, set, slice_index, Option, refl, sym}
use Rattle.std.proofs.Common.{ap, ◌∙◌, arith}
use mathlib.Core.Option.{some, none}
use lib.ListN.{get_elem?}
use Rattle.std.proofs.Math.Nat.{mod-add-mod}
use Rattle.atomic_table.specs.Table.{State, Me, step, keeps, Allows, stepped}
use Rattle.xl_turn.specs.declared.view.View.{View}
use Rattle.xl_turn.specs.declared.view.Stage.TheVariants.{Idle}
use Rattle.xl_turn.specs.Turns.{Kept, Fits, waiting_with, tickets, busy, past, places, weight, busy_at, past_at, ticket_at}
use Rattle.xl_turn.specs.Steps.{Draws}
use Rattle.xl_turn.proofs.Totals.{total_set, between_more}
use Rattle.xl_turn.proofs.Keeps.{all_fit, total_kept}

module _ {T E : Type 0} (entries : T → List E) (closes : List E → Option ℕ) where
  waits_fits : (from turn t : ℕ) (log : List E) (v : View E) → 0 < v.weight → Fits closes from turn log v
      → Fits closes from turn log (waiting_with v t)
  waits_fits from turn t log v live f = record {
    starts = f.starts;
    front_is = f.front_is;
    heard_is = f.heard_is;
    spent = λ z. absurd (omega arith);
    at_turn = λ z. absurd (omega arith);
    is_closed = f.is_closed;
  }

  keeps_draw : (opening : List E) (id : ℕ) (v : View E) (s : State (Option T) (View E)) (c : List (ℕ × Option T)) → v.stage ≡ Idle
      → 0 < v.weight → (kept : Kept entries closes opening s) → get_elem? s.views id ≡ some v
      → Kept entries closes opening (stepped s 0 ((slice_index s.words 0 + 1) % 2 ^ 64) id c (waiting_with v kept.drawn) keeps)
  keeps_draw opening id v s c idle live kept at =
      let w : View E = waiting_with v kept.drawn in
      let next : (slice_index s.words 0 + 1) % 2 ^ 64 ≡ (kept.drawn + 1) % 2 ^ 64 =
      rw kept.words (mod-add-mod kept.drawn (2 ^ 64) 1) in
      let no_ticket : (x : ℕ) → tickets x v ≡ 0 = λ x. ap (λ st. ticket_at st v.ticket x) idle in
      record {
        served = kept.served;
        drawn = kept.drawn + 1;
        count = kept.count;
        log = kept.log;
        words = ap (λ l. set l 0 ((slice_index s.words 0 + 1) % 2 ^ 64)) kept.words
            ∙ ap (λ n. n ∷ kept.served % 2 ^ 64 ∷ kept.count % 2 ^ 64 ∷ []) next;
        opens = kept.opens;
        grown = kept.grown;
        active = omega (arith, kept.active, total_set busy s.views id v w at, ap busy_at idle);
        turns = λ x. omega (
          arith,
          kept.turns x,
          total_set (tickets x) s.views id v w at,
          no_ticket x,
          between_more kept.served kept.drawn x (omega (arith, kept.active)),
        );
        made_once = λ x. total_kept entries closes (places x) s.views id v w at refl ∙ kept.made_once x;
        weights = total_kept entries closes weight s.views id v w at refl ∙ kept.weights;
        fits = all_fit entries closes (length opening) kept.served kept.served kept.log kept.log s.views id w kept.fits
            (λ i u ne e f. f) (waits_fits (length opening) kept.served kept.drawn kept.log v live (kept.fits id v at));
        at_home = λ z. kept.at_home (sym (total_kept entries closes past s.views id v w at (ap past_at idle)) ∙ z);
        is_out = λ z. kept.is_out (omega (arith, total_kept entries closes past s.views id v w at (ap past_at idle)));
      }

  pub draws : (opening : List E) (n id : ℕ) (m : Me (Option T) (View E)) → m.0.stage ≡ Idle → 0 < m.0.weight
      → Allows (Kept entries closes opening) n id m 0 (λ k. (k + 1) % 2 ^ 64) (Draws (step n 0 1 0 none) m)
  draws opening n id m idle live s kept wide at low = (
    waiting_with m.0 kept.drawn,
    keeps,
    tt,
    keeps_draw opening id m.0 s m.1 idle live kept at,
    (kept.drawn, ap (λ l. slice_index l 0) kept.words, refl),
  )
