-- The stacks of a document, each once.
use Rattle.std.proofs.Common.{◌≡◌, ℕ, suc, ◌+◌, ◌≤◌, Bool, true, false, cond, not, ◌||◌, ◌==◌, List, [], ◌∷◌, ◌++◌}
use Rattle.std.proofs.Common.{length, filter, refl, ◌∙◌, ap, arith, eq-eqb}
use Rattle.std.specs.List.{AllByRecursion}
use Rattle.std.proofs.lemmas.Bool.{eqb-true}
use Rattle.spec_document.specs.Forest.{none, leaf, group, ids, size}
use Rattle.spec_document.specs.Document.{Document, Nodes}
use Rattle.spec_document.specs.Limits.{IsDocument}
use Rattle.spec_damage.proofs.Counts.{times, times-append, once_from}
use Rattle.spec_history.specs.Machine.{has_stack}
use Rattle.spec_world.specs.World.{group_ids, stack_ids}
use Rattle.spec_world.proofs.Filled.{eq-swap}
use Rattle.spec_world.proofs.Stacks.{has_id}
use Rattle.spec_standing.specs.Change.{came_to}
use Rattle.spec_cache.specs.declared.TheConstants.{MAX_STACKS}

-- each number stands once
abbrev pub AreOnce : List ℕ → Type 0
AreOnce [] = Unit {0}
AreOnce (x ∷ xs) = (has_id x xs ≡ false) × AreOnce xs

-- ---- by counting

absent : (id : ℕ) (xs : List ℕ) → times id xs ≡ 0 → has_id id xs ≡ false
absent id [] e = refl
absent id (x ∷ xs) e = go (id == x) refl e (absent id xs)
  where
    go : (b : Bool) → (id == x) ≡ b → cond b 1 0 + times id xs ≡ 0 → (times id xs ≡ 0 → has_id id xs ≡ false)
        → ((x == id) || has_id id xs) ≡ false
    go true q k more = absurd (omega (arith, k))
    go false q k more = (λ i. (eq-swap x id ∙ q) i || has_id id xs) ∙ more (omega (arith, k))

once-counted : (xs : List ℕ) → ((id : ℕ) → times id xs ≤ 1) → AreOnce xs
once-counted [] h = tt
once-counted (x ∷ xs) h =
    let num : Bool → ℕ = λ b. cond b 1 0 in
    let same : num (x == x) ≡ 1 = ap num (eq-eqb x x refl) in
    let own : cond (x == x) 1 0 + times x xs ≤ 1 = h x in (
      absent x xs (omega (arith, same, own)),
      once-counted xs (λ id. let both : cond (id == x) 1 0 + times id xs ≤ 1 = h id in omega (arith, both)),
    )

filter-fewer : (p : ℕ → Bool) (id : ℕ) (xs : List ℕ) → times id (filter p xs) ≤ times id xs
filter-fewer p id [] = omega arith
filter-fewer p id (x ∷ xs) = go (p x) (filter-fewer p id xs)
  where
    go : (b : Bool) → times id (filter p xs) ≤ times id xs
        → times id (cond b (x ∷ filter p xs) (filter p xs)) ≤ cond (id == x) 1 0 + times id xs
    go true le = omega (arith, le)
    go false le = omega (arith, le)

pub groups-fewer : (id : ℕ) (nodes : Nodes) → times id (group_ids nodes) ≤ times id (ids nodes)
groups-fewer id none = omega arith
groups-fewer id (leaf i l under) = omega (arith, groups-fewer id under)
groups-fewer id (group i g children under) =
    omega (
      arith,
      groups-fewer id children,
      groups-fewer id under,
      times-append id (group_ids children) (group_ids under),
      times-append id (ids children) (ids under),
    )

not-zero : (xs : List ℕ) → AllByRecursion (λ id. 1 ≤ id) xs → times 0 xs ≡ 0
not-zero [] all = refl
not-zero (x ∷ xs) all = go (0 == x) refl (not-zero xs all.1)
  where
    go : (b : Bool) → (0 == x) ≡ b → times 0 xs ≡ 0 → cond b 1 0 + times 0 xs ≡ 0
    go true e k = let z : 0 ≡ x = eqb-true 0 x e in let above = all.0 in absurd (omega (arith, z, above))
    go false e k = omega (arith, k)

-- with the image, which has no node's id
all-fewer : (d : Document) → IsDocument d → (id : ℕ) → times id (0 ∷ group_ids d.nodes) ≤ 1
all-fewer d is id = go (id == 0) refl
  where
    once : times id (ids d.nodes) ≤ 1
    once = once_from id (ids d.nodes) is.ids.distinct

    go : (b : Bool) → (id == 0) ≡ b → cond b 1 0 + times id (group_ids d.nodes) ≤ 1
    go true e =
        let z : times id (ids d.nodes) ≡ 0 = ap (λ k. times k (ids d.nodes)) (eqb-true id 0 e)
        ∙ not-zero (ids d.nodes) is.ids.positive in
        omega (arith, z, groups-fewer id d.nodes)
    go false e = omega (arith, once, groups-fewer id d.nodes)

pub stacks-once : (d : Document) → IsDocument d → AreOnce (stack_ids d)
stacks-once d is =
    once-counted (stack_ids d) (λ id. omega (arith, filter-fewer (has_stack d) id (0 ∷ group_ids d.nodes), all-fewer d is id))

pub came-once : (old new : Document) → IsDocument new → AreOnce (came_to old new)
came-once old new is =
    once-counted (came_to old new)
    (λ id. omega (
      arith,
      filter-fewer (λ k. not (has_stack old k)) id (stack_ids new),
      filter-fewer (has_stack new) id (0 ∷ group_ids new.nodes),
      all-fewer new is id,
    ))

-- ---- how many there are

pub filter-shorter : (p : ℕ → Bool) (xs : List ℕ) → length (filter p xs) ≤ length xs
filter-shorter p [] = omega arith
filter-shorter p (x ∷ xs) = go (p x) (filter-shorter p xs)
  where
    go : (b : Bool) → length (filter p xs) ≤ length xs → length (cond b (x ∷ filter p xs) (filter p xs)) ≤ suc (length xs)
    go true le = omega (arith, le)
    go false le = omega (arith, le)

length-both : (xs ys : List ℕ) → length (xs ++ ys) ≡ length xs + length ys
length-both [] ys = omega arith
length-both (x ∷ xs) ys = omega (arith, length-both xs ys)

groups-few : (nodes : Nodes) → length (group_ids nodes) ≤ size nodes
groups-few none = omega arith
groups-few (leaf i l under) = omega (arith, groups-few under)
groups-few (group i g children under) =
    omega (arith, groups-few children, groups-few under, length-both (group_ids children) (group_ids under))

pub stacks-few : (d : Document) → IsDocument d → length (stack_ids d) ≤ MAX_STACKS
stacks-few d is = let few = is.few in omega (arith, few, filter-shorter (has_stack d) (0 ∷ group_ids d.nodes), groups-few d.nodes)
