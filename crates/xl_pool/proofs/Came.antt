-- The stacks that come, group by group.
use Rattle.std.proofs.Common.{◌≡◌, ℕ, ◌≤◌, Bool, not, List, [], ◌∷◌, ◌++◌, length, filter, sym, ◌∙◌, ap, arith}
use Rattle.std.proofs.lemmas.List.{append_assoc}
use Rattle.std.proofs.lemmas.List.Elements.{filter-append}
use Rattle.spec_document.specs.Document.{Document}
use Rattle.spec_document.specs.Limits.{IsDocument}
use Rattle.spec_history.specs.Machine.{has_stack}
use Rattle.spec_world.specs.World.{stack_ids}
use Rattle.xl_tree.specs.declared.naming.NodeId.{NodeId}
use Rattle.xl_regions.specs.Pairs.{numbers}
use Rattle.spec_standing.specs.Change.{came_to}
use Rattle.xl_pool.proofs.Listed.{length-numbers}
use Rattle.xl_pool.proofs.Once.{filter-shorter, stacks-few}
use Rattle.spec_cache.specs.declared.TheConstants.{MAX_STACKS}

-- a group, the groups in it, and those under it
pub came_joined : (p : ℕ → Bool) (id : ℕ) (cs us n0 n1 n2 n3 : List ℕ) → n1 ≡ n0 ++ filter p (id ∷ [])
    → n2 ≡ n1 ++ filter p cs → n3 ≡ n2 ++ filter p us → n3 ≡ n0 ++ filter p (id ∷ (cs ++ us))
came_joined p id cs us n0 n1 n2 n3 one two three =
    let all : filter p ((id ∷ []) ++ (cs ++ us)) ≡ filter p (id ∷ []) ++ (filter p cs ++ filter p us) =
    filter-append p (id ∷ []) (cs ++ us) ∙ ap (λ xs. filter p (id ∷ []) ++ xs) (filter-append p cs us) in
    three
    ∙ (ap (λ xs. xs ++ filter p us) (two ∙ ap (λ xs. xs ++ filter p cs) one)
    ∙ (ap (λ xs. xs ++ filter p us) (append_assoc n0 (filter p (id ∷ [])) (filter p cs))
    ∙ (append_assoc n0 (filter p (id ∷ []) ++ filter p cs) (filter p us)
    ∙ (ap (λ xs. n0 ++ xs) (append_assoc (filter p (id ∷ [])) (filter p cs) (filter p us))
    ∙ ap (λ xs. n0 ++ xs) (sym all)))))

-- there are no more of them than stacks
pub few-new : (old new : Document) (ids : List NodeId) → IsDocument new → numbers ids ≡ came_to old new → length ids ≤ MAX_STACKS
few-new old new ids is e =
    let p : ℕ → Bool = λ k. not (has_stack old k) in
    let same : length (numbers ids) ≡ length (filter p (stack_ids new)) = ap length e in
    omega (arith, length-numbers ids, same, filter-shorter p (stack_ids new), stacks-few new is)
