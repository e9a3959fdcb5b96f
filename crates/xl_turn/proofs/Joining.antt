-- A seat is split in two, two seats are joined, and the last seat knows all.
use Rattle.std.proofs.Common.{◌≡◌, ◌≢◌, ◌⊎◌, ⊎_elim, inl, inr, ℕ, zero, suc, ◌+◌, ◌-◌, ◌<◌, ◌≤◌, List, [], ◌∷◌, ◌++◌}
use Rattle.std.proofs.Common.{length, set, slice_index, Option, Some, refl, sym, ap, ◌∙◌, subst, arith}
use mathlib.Core.Option.{some, none, some-injective}
use mathlib.Core.List.{IsPrefix}
use lib.ListN.{get_elem?}
use Rattle.atomic_table.specs.Table.{Me, step, keeps, Allows, Splits, Joins, Final, Seen}
use Rattle.atomic_table.proofs.Lists.{at_set, at_snoc}
use Rattle.xl_turn.specs.declared.view.View.{View}
use Rattle.xl_turn.specs.declared.view.Stage.TheVariants.{Idle}
use Rattle.xl_turn.specs.Sums.{total, same, times, below}
use Rattle.xl_turn.specs.Turns.{Kept, Fits, newcomer, with_longer_front, lighter, both, tickets, busy, past, places}
use Rattle.xl_turn.specs.Turns.{weight, busy_at, past_at, ticket_at, IsClosed}
use Rattle.xl_turn.specs.Seats.{IsEachOnce}
use Rattle.xl_turn.specs.Steps.{Compares}
use Rattle.xl_turn.proofs.Totals.{total_set, total_append, total_one, total_whole, below_le}
use Rattle.xl_turn.proofs.Fronts.{longer_of}
use Rattle.xl_turn.proofs.Keeps.{all_fit, total_kept, newcomer_fits}

pub times_both : (x : ℕ) (xs ys : List ℕ) → times x (xs ++ ys) ≡ times x xs + times x ys
times_both x xs ys = total_append (same x) xs ys

some_of : (a b : ℕ) → 0 < a + b → (0 < a) ⊎ (0 < b)
some_of zero b h = inr (omega arith)
some_of (suc a) b h = inl (omega arith)

module _ {T E : Type 0} (entries : T → List E) (closes : List E → Option ℕ) where
  closed_both : (from : ℕ) (xs : List E) (a b : List ℕ) → IsClosed closes from xs a → IsClosed closes from xs b
      → IsClosed closes from xs (a ++ b)
  closed_both from xs a b p q i j c has = ⊎_elim
      (λ (h : 0 < times j a). let t : 0 < times i a = p i j c h in omega (arith, times_both i a b))
      (λ (h : 0 < times j b). let t : 0 < times i b = q i j c h in omega (arith, times_both i a b))
      (some_of (times j a) (times j b) (omega (arith, times_both j a b)))

  pub splits : (opening : List E) (id : ℕ) (v : View E) → 2 ≤ v.weight
      → Splits {S = Option T} (Kept entries closes opening) id v (lighter v) (newcomer 1 v.start v.front)
  splits opening id v two s kept at =
      let f = kept.fits id v at in
      let w : View E = lighter v in
      let u : View E = newcomer 1 v.start v.front in
      let less : Fits closes (length opening) kept.served kept.log w = record {
        starts = λ z. f.starts (omega arith);
        front_is = f.front_is;
        heard_is = f.heard_is;
        spent = λ z. absurd (omega arith);
        at_turn = f.at_turn;
        is_closed = f.is_closed;
      } in
      let new : Fits closes (length opening) kept.served kept.log u =
      newcomer_fits entries closes (length opening) kept.served 1 v.start v.front kept.log
      (λ z. f.starts (omega arith)) f.front_is in
      let sum = λ (g : View E → ℕ). total_append g (set s.views id w) (u ∷ []) in
      record {
        served = kept.served;
        drawn = kept.drawn;
        count = kept.count;
        log = kept.log;
        words = kept.words;
        opens = kept.opens;
        grown = kept.grown;
        active = omega (arith, kept.active, sum busy, total_kept entries closes busy s.views id v w at refl);
        turns = λ y. omega (arith, kept.turns y, sum (tickets y), total_kept entries closes (tickets y) s.views id v w at refl);
        made_once =
            λ y. omega (arith, kept.made_once y, sum (places y), total_kept entries closes (places y) s.views id v w at refl);
        weights = omega (arith, kept.weights, sum weight, total_set weight s.views id v w at);
        fits = λ i x e. ⊎_elim
            (λ (d : get_elem? (set s.views id w) i ≡ some x).
            all_fit entries closes (length opening) kept.served kept.served kept.log kept.log s.views id w kept.fits
            (λ j y ne a g. g) less i x d)
            (λ (d : u ≡ x). let P : View E → Type 0 = λ y. Fits closes (length opening) kept.served kept.log y in subst P d new)
            (at_snoc (set s.views id w) u x i e);
        at_home = λ z. kept.at_home (omega (arith, sum past, total_kept entries closes past s.views id v w at refl));
        is_out = λ z. kept.is_out (omega (arith, sum past, total_kept entries closes past s.views id v w at refl));
      }

  pub joins : (opening : List E) (id : ℕ) (v : View E) (other : ℕ) (w : View E) → w.stage ≡ Idle → 0 < v.weight
      → Joins {S = Option T} (Kept entries closes opening) id v other w (both v w) (newcomer 0 0 [])
  joins opening id v other w idle live s kept at apart there =
      let b : View E = both v w in
      let z : View E = newcomer 0 0 [] in
      let f = kept.fits id v at in
      let there' : get_elem? s.views other ≡ some w = ⊎_elim
      (λ (x : (other ≡ id) × (b ≡ w)). absurd (apart x.0))
      (λ (x : (other ≢ id) × (get_elem? s.views other ≡ some w)). x.1)
      (at_set s.views id other b w there) in
      let g = kept.fits other w there' in
      let joint : Fits closes (length opening) kept.served kept.log b = record {
        starts = λ n. f.starts live;
        front_is = f.front_is;
        heard_is = g.front_is;
        spent = λ n. absurd (omega arith);
        at_turn = f.at_turn;
        is_closed = closed_both (length opening) kept.log v.made w.made f.is_closed g.is_closed;
      } in
      let gone : Fits closes (length opening) kept.served kept.log z =
      newcomer_fits entries closes (length opening) kept.served 0 0 [] kept.log (λ n. absurd (omega arith)) (kept.log, refl) in
      let fit_mid = all_fit entries closes (length opening) kept.served kept.served kept.log kept.log s.views id b kept.fits
      (λ j y ne a h. h) joint in
      let one = λ (h : View E → ℕ). total_set h s.views id v b at in
      let two = λ (h : View E → ℕ). total_set h (set s.views id b) other w z there in
      record {
        served = kept.served;
        drawn = kept.drawn;
        count = kept.count;
        log = kept.log;
        words = kept.words;
        opens = kept.opens;
        grown = kept.grown;
        active = omega (arith, kept.active, one busy, two busy, ap busy_at idle);
        turns = λ y. omega (arith, kept.turns y, one (tickets y), two (tickets y), ap (λ st. ticket_at st w.ticket y) idle);
        made_once = λ y. omega (arith, kept.made_once y, one (places y), two (places y), times_both y v.made w.made);
        weights = omega (arith, kept.weights, one weight, two weight);
        fits = all_fit entries closes (length opening) kept.served kept.served kept.log kept.log (set s.views id b) other z fit_mid
            (λ j y ne a h. h) gone;
        at_home = λ n. kept.at_home (omega (arith, one past, two past, ap past_at idle));
        is_out = λ n. kept.is_out (omega (arith, one past, two past, ap past_at idle));
      }

  pub compares : (opening : List E) (n id : ℕ) (m : Me (Option T) (View E)) → 0 < m.0.weight
      → Allows (Kept entries closes opening) n id m 0 (λ k. k) (Compares (step n 0 0 0 none) m)
  compares opening n id m live s kept wide at low =
      let v = m.0 in
      let w : View E = with_longer_front v in
      let f = kept.fits id v at in
      let l = longer_of v.front v.heard kept.log f.front_is f.heard_is in
      let own : Fits closes (length opening) kept.served kept.log w = record {
        starts = f.starts;
        front_is = l.2;
        heard_is = (kept.log, refl);
        spent = λ z. absurd (omega arith);
        at_turn = f.at_turn;
        is_closed = f.is_closed;
      } in
      let once : (x : ℕ) → times x v.made ≤ 1 =
      λ x. omega (arith, total_one (places x) s.views id v at, kept.made_once x, below_le kept.count x) in (
        w,
        keeps,
        tt,
        record {
          served = kept.served;
          drawn = kept.drawn;
          count = kept.count;
          log = kept.log;
          words = ap (λ l. set l 0 (slice_index l 0)) kept.words;
          opens = kept.opens;
          grown = kept.grown;
          active = omega (arith, kept.active, total_kept entries closes busy s.views id v w at refl);
          turns = λ y. total_kept entries closes (tickets y) s.views id v w at refl ∙ kept.turns y;
          made_once = λ y. total_kept entries closes (places y) s.views id v w at refl ∙ kept.made_once y;
          weights = total_kept entries closes weight s.views id v w at refl ∙ kept.weights;
          fits = all_fit entries closes (length opening) kept.served kept.served kept.log kept.log s.views id w kept.fits
              (λ i u ne e g. g) own;
          at_home = λ z. kept.at_home (sym (total_kept entries closes past s.views id v w at refl) ∙ z);
          is_out = λ z. kept.is_out (omega (arith, total_kept entries closes past s.views id v w at refl));
        },
        (refl, l.0, l.1, once),
      )

  -- the seat with all the weight knows all places, and the slot has the state
  pub settles : (opening : List E) (id : ℕ) (v : View E) (ws : List ℕ) (xs : List (Option T)) (slot : Option T) → v.stage ≡ Idle
      → v.weight ≡ 4294967296
      → Final (Seen (Kept entries closes opening) id v) ws xs → get_elem? xs 0 ≡ some slot
      → (y : T) × (slot ≡ Some y) × IsPrefix opening (entries y) × IsPrefix v.front (entries y)
      × IsEachOnce (length (entries y) - length opening) v.made
  settles opening id v ws xs slot idle heavy final there =
      let s = final.0 in
      let kept : Kept entries closes opening s = final.1.0 in
      let at : get_elem? s.views id ≡ some v = final.1.1 in
      let all : total weight s.views ≡ weight v = kept.weights ∙ sym heavy in
      let none_past : total past s.views ≡ past v =
      total_whole past weight s.views id v at all (λ i u e z. ap past_at ((kept.fits i u e).spent z).0) in
      let home = kept.at_home (none_past ∙ ap past_at idle) in
      let y : T = home.0 in
      let is : get_elem? xs 0 ≡ some (Some y) = final.4 0 (Some y) (ap (λ h. get_elem? h 0) home.1) in
      let count : kept.count ≡ length (entries y) - length opening = omega (arith, kept.grown, ap length home.2) in (
        y,
        some-injective slot (Some y) (sym there ∙ is),
        subst (λ (l : List E). IsPrefix opening l) (sym home.2) kept.opens,
        subst (λ (l : List E). IsPrefix v.front l) (sym home.2) (kept.fits id v at).front_is,
        λ x. sym (total_whole (places x) weight s.views id v at all (λ i u e z. ap (times x) ((kept.fits i u e).spent z).1))
            ∙ (kept.made_once x ∙ ap (λ n. below n x) count),
      )

  -- the same of the state that was found in the slot
  pub knows : (opening : List E) (id : ℕ) (v : View E) (ws : List ℕ) (xs : List (Option T)) (slot : Option T) (y : T)
      → v.stage ≡ Idle → v.weight ≡ 4294967296
      → Final (Seen (Kept entries closes opening) id v) ws xs → get_elem? xs 0 ≡ some slot → slot ≡ Some y
      → IsPrefix opening (entries y) × IsPrefix v.front (entries y) × IsEachOnce (length (entries y) - length opening) v.made
  knows opening id v ws xs slot y idle heavy final there is =
      let all = settles opening id v ws xs slot idle heavy final there in
      let one : all.0 ≡ y = cc (all.1, is) in
      let P : T → Type 0 = λ x. IsPrefix opening (entries x) × IsPrefix v.front (entries x)
      × IsEachOnce (length (entries x) - length opening) v.made in
      subst P one (all.2, all.3, all.4)
