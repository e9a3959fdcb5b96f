-- The parts of a stack, and the stack again.
use Rattle.std.specs.Prelude.{◌≡◌, ℕ, ◌+◌}
use Rattle.spec_document.specs.Forest.{Forest, none, leaf, group, size}
use Rattle.xl_tree.specs.declared.stacks.Split.{Split}
use Rattle.xl_tree.specs.declared.stacks.Split.TheVariants as split

-- the forest that was taken apart
abbrev pub whole : {N : Type 0} → Split N → Forest N N
whole split.Empty = none
whole (split.Leaf id node under) = leaf id.0 node.now under
whole (split.Group id node children under) = group id.0 node.now children under

-- the parts are smaller than a forest of this size
abbrev pub Falls : {N : Type 0} → Split N → ℕ → Type 0
Falls split.Empty n = n ≡ 0
Falls (split.Leaf id node under) n = 1 + size under ≡ n
Falls (split.Group id node children under) n = 1 + size children + size under ≡ n
