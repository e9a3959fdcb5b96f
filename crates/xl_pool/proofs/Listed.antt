-- Lists of ids that code keeps are short.
use Rattle.std.proofs.Common.{◌≡◌, ℕ, suc, ◌≤◌, List, [], ◌∷◌, length, refl, ap, arith}
use Rattle.spec_document.specs.Document.{Document}
use Rattle.spec_document.specs.Limits.{IsDocument}
use Rattle.spec_world.specs.World.{stack_ids}
use Rattle.xl_tree.specs.declared.naming.NodeId.{NodeId}
use Rattle.xl_regions.specs.Pairs.{numbers}
use Rattle.xl_pool.proofs.Once.{stacks-few}
use Rattle.spec_cache.specs.declared.TheConstants.{MAX_STACKS}

pub length-numbers : (ids : List NodeId) → length (numbers ids) ≡ length ids
length-numbers [] = refl
length-numbers (x ∷ xs) = ap suc (length-numbers xs)

pub few-stacks : (d : Document) (ids : List NodeId) → IsDocument d → numbers ids ≡ stack_ids d → length ids ≤ MAX_STACKS
few-stacks d ids is e =
    let same : length (numbers ids) ≡ length (stack_ids d) = ap length e in
    omega (arith, length-numbers ids, same, stacks-few d is)
