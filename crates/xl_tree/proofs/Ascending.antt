-- Places in the order of their ids: what a search finds among them, and what one more does.
use Rattle.std.proofs.Common.{◌≡◌, ℕ, zero, suc, ◌+◌, ◌-◌, ◌<◌, ◌≤◌, Bool, true, false, cond, eqb, List, [], ◌∷◌, length, get_or}
use Rattle.std.proofs.Common.{Result, Ok, Err, IfOk, IfErr, refl, sym, ◌∙◌, ap, arith}
use Rattle.std.proofs.lemmas.Bool.{eqb-true}
use Rattle.std.proofs.lemmas.Bool.Decides.{nat_tests}
use Rattle.std.proofs.lemmas.Cmp.{ranked}
use Rattle.std.proofs.lemmas.List.{get_or_default}
use Rattle.std.proofs.lemmas.List.Edits.{length-insert, get_or-insert_below, get_or-insert_at, get_or-insert_above}
use Rattle.std.specs.List.{insert}
use Rattle.std.specs.List.Sorted.{IsSearchInRange, IsBinarySearchResult, IsNonDecreasingBy}
use Rattle.std.specs.Ordering.{nat_cmp, ordering_index}
use Rattle.std.specs.Prelude.{Option, Some, None}
use Rattle.xl_tree.specs.declared.index.IndexedId.{IndexedId}
use Rattle.xl_tree.specs.Index.{HasPlace, IsAscending, IsGap, place_at}
use Rattle.xl_tree.specs.Places.{first_some}

-- the first of two, where the second is there by a test alone
first_some_none : (x : Option ℕ) → first_some x None ≡ x
first_some_none None = refl
first_some_none (Some n) = refl

second_tested : (b : Bool) (x : Option ℕ) (n : ℕ) → (b ≡ true → x ≡ None) → cond b (Some n) x ≡ first_some x (cond b (Some n) None)
second_tested true x n absent = sym (ap (λ y. first_some y (Some n)) (absent refl))
second_tested false x n absent = sym (first_some_none x)

first_stays : (b : Bool) (x : Option ℕ) (n old : ℕ) → (b ≡ true → x ≡ Some old) → x ≡ first_some x (cond b (Some n) None)
first_stays true x n old there = there refl ∙ sym (ap (λ y. first_some y (Some n)) (there refl))
first_stays false x n old there = sym (first_some_none x)

-- a place in front of others: what is not found with it is not found behind it, and it comes before what is added behind it
behind_none : (b : Bool) (x : Option ℕ) (n : ℕ) → cond b (Some n) x ≡ None → x ≡ None
behind_none true x n absent = cc
behind_none false x n absent = absent

behind_first : (b : Bool) (x y z : Option ℕ) (n : ℕ) → x ≡ first_some y z → cond b (Some n) x ≡ first_some (cond b (Some n) y) z
behind_first true x y z n rest = refl
behind_first false x y z n rest = rest

-- the places after the first
rest_ascend : (p : IndexedId) (ps : List IndexedId) → IsAscending (p ∷ ps) → IsAscending ps
rest_ascend p ps up i j d lower within = up (suc i) (suc j) d (omega arith) (omega arith)

-- the id of a place has that place
place_at_its_id : (id k : ℕ) (ps : List IndexedId) (d : IndexedId) → IsAscending ps → k < length ps → (get_or ps k d).id ≡ id
    → place_at ps id ≡ Some (get_or ps k d).at
place_at_its_id id k [] d up within same = absurd (omega arith)
place_at_its_id id zero (p ∷ ps) d up within same = grind (arith, nat_tests)
place_at_its_id id (suc k) (p ∷ ps) d up within same =
    let before : p.id < (get_or ps k d).id = up 0 (suc k) d (omega arith) within in
    let behind : place_at ps id ≡ Some (get_or ps k d).at = place_at_its_id id k ps d (rest_ascend p ps up) (omega arith) same in
    grind (arith, nat_tests, before, behind)

-- an id that no place is for has none
nowhere_none : (id : ℕ) (ps : List IndexedId) → ((k : ℕ) (d : IndexedId) → k < length ps → (get_or ps k d).id ≡ id → ⊥)
    → place_at ps id ≡ None
nowhere_none id [] nowhere = refl
nowhere_none id (p ∷ ps) nowhere =
    let behind : place_at ps id ≡ None = nowhere_none id ps (λ k d within same. nowhere (suc k) d (omega arith) same) in
    let here : p.id ≡ id → ⊥ = nowhere 0 p (omega arith) in
    grind (arith, nat_tests, behind, here)

-- an id with a gap has no place
pub gap_none : (id k : ℕ) (ps : List IndexedId) → IsGap id ps k → place_at ps id ≡ None
gap_none id k ps gap =
    nowhere_none id ps (λ j d within same. grind (arith, gap.lower j d, gap.higher j d))

-- where the last id is lower, the gap is at the end
pub gap_at_end : (id : ℕ) (ps : List IndexedId) (last : IndexedId) → IsAscending ps → last ≡ get_or ps (length ps - 1) last → last.id < id
    → IsGap id ps (length ps)
gap_at_end id ps last up last_is lower = record {
  within = omega arith;
  lower = λ j d within. grind (arith, up j (length ps - 1) d, get_or_default ps (length ps - 1) d last);
  higher = λ j d from within. absurd (omega arith);
}

-- the comparisons with an id rise along the places, as a binary search asks
comparisons_rise : (id : ℕ) (ps : List IndexedId) → IsAscending ps → IsNonDecreasingBy (λ p. ordering_index (nat_cmp p.id id)) ps
comparisons_rise id ps up i j d order within =
    let rises : (get_or ps i d).id ≤ (get_or ps j d).id =
    grind (arith, up i j d, λ (same : i ≡ j). ap (λ k. (get_or ps k d).id) same) in
    grind (arith, nat_tests)

-- a binary search by id ends at the id's place, or at the gap for it
pub found_place : (id : ℕ) (ps : List IndexedId) (r : Result ℕ ℕ) → IsAscending ps → IsSearchInRange r (length ps)
    → IsBinarySearchResult (λ p. nat_cmp p.id id) ps r → IfOk r (HasPlace id ps)
found_place id ps (Ok k) up within equal = record {
  within = within;
  place_is = λ d. place_at_its_id id k ps d up within (ranked _ id _ (sym (equal d)));
}
found_place id ps (Err k) up within parted = tt

pub found_gap : (id : ℕ) (ps : List IndexedId) (r : Result ℕ ℕ) → IsAscending ps → IsSearchInRange r (length ps)
    → IsBinarySearchResult (λ p. nat_cmp p.id id) ps r → IfErr r (IsGap id ps)
found_gap id ps (Ok k) up within equal = tt
found_gap id ps (Err k) up within parted =
    let parts = parted (comparisons_rise id ps up) in
    record {
      within = within;
      lower = λ j d before. ranked _ id _ (sym (parts.0 j d (omega arith) before));
      higher = λ j d from behind. ranked _ id _ (sym (parts.1 j d from behind));
    }

-- one more place keeps the order: each is an old one below the gap, the new one, or an old one moved up by one
pub ascending-insert : (k : ℕ) (ps : List IndexedId) (p : IndexedId) → IsAscending ps → IsGap p.id ps k → IsAscending (insert ps k p)
ascending-insert k ps p up gap i j d order within =
    let long = length-insert ps k p gap.within in
    let below : (m : ℕ) → m < k → (get_or (insert ps k p) m d).id ≡ (get_or ps m d).id =
    λ m lower. ap (λ x. x.id) (get_or-insert_below ps k p d m lower gap.within) in
    let here : (m : ℕ) → m ≡ k → (get_or (insert ps k p) m d).id ≡ p.id =
    λ m same. ap (λ n. (get_or (insert ps k p) n d).id) same ∙ ap (λ x. x.id) (get_or-insert_at ps k p d gap.within) in
    let above : (m : ℕ) → k < m → (get_or (insert ps k p) m d).id ≡ (get_or ps (m - 1) d).id =
    λ m higher. let more : m ≡ m - 1 + 1 = omega arith in
    ap (λ n. (get_or (insert ps k p) n d).id) more
    ∙ ap (λ x. x.id) (get_or-insert_above ps k p d (m - 1) (omega arith) gap.within) in
    grind (
      arith,
      long,
      below i,
      here i,
      above i,
      below j,
      here j,
      above j,
      up i j d,
      up i (j - 1) d,
      up (i - 1) (j - 1) d,
      gap.lower i d,
      gap.higher (j - 1) d,
    )

-- a place for an id that has none changes what is told of that id alone
pub place_at-insert : (id k : ℕ) (ps : List IndexedId) (p : IndexedId) → place_at ps p.id ≡ None
    → place_at (insert ps k p) id ≡ first_some (place_at ps id) (cond (eqb id p.id) (Some p.at) None)
place_at-insert id zero ps p absent =
    second_tested (eqb id p.id) (place_at ps id) p.at (λ same. ap (λ i. place_at ps i) (eqb-true id p.id same) ∙ absent)
place_at-insert id (suc k) [] p absent = refl
place_at-insert id (suc k) (q ∷ qs) p absent =
    behind_first (eqb id q.id) _ (place_at qs id) _ q.at
    (place_at-insert id k qs p (behind_none (eqb p.id q.id) (place_at qs p.id) q.at absent))

-- for an id that has a place nothing is added
pub place_stays : (id old : ℕ) (ps : List IndexedId) (p : IndexedId) → place_at ps p.id ≡ Some old
    → place_at ps id ≡ first_some (place_at ps id) (cond (eqb id p.id) (Some p.at) None)
place_stays id old ps p there =
    first_stays (eqb id p.id) (place_at ps id) p.at old (λ same. ap (λ i. place_at ps i) (eqb-true id p.id same) ∙ there)
