-- Each group of a document is found, so all its stacks are there.
use Rattle.std.proofs.Common.{◌≡◌, ℕ, ◌+◌, ◌≤◌, Bool, true, false, cond, ◌||◌, ◌==◌, List, [], ◌∷◌, filter, refl, sym}
use Rattle.std.proofs.Common.{◌∙◌, ap, arith, eq-eqb, true≢false}
use Rattle.std.specs.Prelude.{Some, is_some}
use Rattle.std.proofs.lemmas.List.Folds.{list_any-append}
use Rattle.spec_document.specs.Forest.{Found, nothing, a_leaf, a_group, none, leaf, group, ids, find, or_else, children_of}
use Rattle.spec_document.specs.Document.{Document, Nodes, Layer, Group}
use Rattle.spec_document.specs.Limits.{IsDocument}
use Rattle.spec_damage.proofs.Counts.{times, times-append, once_from, not_found}
use Rattle.spec_history.specs.Machine.{has_stack}
use Rattle.spec_world.specs.World.{group_ids, stack_ids}
use Rattle.spec_world.proofs.Filled.{eq-swap}
use Rattle.spec_world.proofs.Stacks.{has_id}
use Rattle.xl_pool.proofs.Once.{groups-fewer}

some-times : (k : ℕ) (xs : List ℕ) → has_id k xs ≡ true → 1 ≤ times k xs
some-times k [] e = absurd (true≢false (sym e))
some-times k (x ∷ xs) e = go (k == x) refl e (some-times k xs)
  where
    go : (b : Bool) → (k == x) ≡ b → ((x == k) || has_id k xs) ≡ true → (has_id k xs ≡ true → 1 ≤ times k xs)
        → 1 ≤ cond b 1 0 + times k xs
    go true p h more = omega arith
    go false p h more = omega (arith, more (sym (ap (λ b. b || has_id k xs) (eq-swap x k ∙ p)) ∙ h))

no-times : (k i : ℕ) (n : ℕ) → cond (k == i) 1 0 + n ≤ 1 → 1 ≤ n → (k == i) ≡ false
no-times k i n le some = go (k == i) le
  where
    go : (b : Bool) → cond b 1 0 + n ≤ 1 → b ≡ false
    go true h = absurd (omega (arith, h, some))
    go false h = refl

group-first : (x y : Found Layer Group) → is_some (children_of x) ≡ true → is_some (children_of (or_else x y)) ≡ true
group-first nothing y e = absurd (true≢false (sym e))
group-first (a_leaf l) y e = e
group-first (a_group g c) y e = refl

group-second : (x y : Found Layer Group) → x ≡ nothing → is_some (children_of y) ≡ true → is_some (children_of (or_else x y)) ≡ true
group-second x y gone e = ap (λ f. is_some (children_of (or_else f y))) gone ∙ e

pub group-found : (k : ℕ) (nodes : Nodes) → times k (ids nodes) ≤ 1 → has_id k (group_ids nodes) ≡ true
    → is_some (children_of (find k nodes)) ≡ true
group-found k none le e = absurd (true≢false (sym e))
group-found k (leaf i l under) le e =
    let some : 1 ≤ times k (group_ids under) = some-times k (group_ids under) e in
    let other : (k == i) ≡ false = no-times k i (times k (ids under)) le (omega (arith, some, groups-fewer k under)) in
    ap (λ b. is_some (children_of (cond b (a_leaf l) (find k under)))) other ∙ group-found k under (omega (arith, le)) e
group-found k (group i g children under) le e =
    go (k == i) (has_id k (group_ids children)) refl refl
    (sym (ap (λ b. (i == k) || b) (list_any-append (λ n. n == k) (group_ids children) (group_ids under))) ∙ e)
    (group-found k children (omega (arith, le, times-append k (ids children) (ids under))))
    (group-found k under (omega (arith, le, times-append k (ids children) (ids under))))
  where
    go : (b c : Bool) → (k == i) ≡ b → has_id k (group_ids children) ≡ c → ((i == k) || (c || has_id k (group_ids under))) ≡ true
        → (has_id k (group_ids children) ≡ true → is_some (children_of (find k children)) ≡ true)
        → (has_id k (group_ids under) ≡ true → is_some (children_of (find k under)) ≡ true)
        → is_some (children_of (cond b (a_group g children) (or_else (find k children) (find k under)))) ≡ true
    go true c p q h inner outer = refl
    go false true p q h inner outer = group-first (find k children) (find k under) (inner q)
    go false false p q h inner outer =
        let there : has_id k (group_ids under) ≡ true = sym (ap (λ b. b || has_id k (group_ids under)) (eq-swap i k ∙ p)) ∙ h in
        let some : 1 ≤ times k (group_ids under) = some-times k (group_ids under) there in
        let few : times k (ids children) + times k (ids under) ≤ 1 = omega (arith, le, times-append k (ids children) (ids under)) in
        group-second (find k children) (find k under) (not_found k children (omega (arith, some, few, groups-fewer k under)))
        (outer there)

all-pass : (p : ℕ → Bool) (xs : List ℕ) → ((k : ℕ) → has_id k xs ≡ true → p k ≡ true) → filter p xs ≡ xs
all-pass p [] h = refl
all-pass p (x ∷ xs) h =
    ap (λ b. cond b (x ∷ filter p xs) (filter p xs)) (h x (ap (λ b. b || has_id x xs) (eq-eqb x x refl)))
    ∙ ap (λ rest. x ∷ rest) (all-pass p xs (λ k e. h k (behind (x == k) (has_id k xs) e)))
  where
    behind : (a b : Bool) → b ≡ true → (a || b) ≡ true
    behind true b e = refl
    behind false b e = e

pub stack_ids-all : (d : Document) → IsDocument d → stack_ids d ≡ 0 ∷ group_ids d.nodes
stack_ids-all d is = all-pass (has_stack d) (0 ∷ group_ids d.nodes) (λ k e. go k (k == 0) refl e)
  where
    go : (k : ℕ) (b : Bool) → (k == 0) ≡ b → has_id k (0 ∷ group_ids d.nodes) ≡ true
        → is_some (cond b (Some d.nodes) (children_of (find k d.nodes))) ≡ true
    go k true p e = refl
    go k false p e = group-found k d.nodes (once_from k (ids d.nodes) is.ids.distinct)
        (sym (ap (λ b. b || has_id k (group_ids d.nodes)) (eq-swap 0 k ∙ p)) ∙ e)
