-- Changes of a forest.
use Rattle.std.specs.Prelude.{ℕ}
use Rattle.spec_document.specs.Forest.{Forest}
use Rattle.spec_document.specs.Changes.{with_leaf, with_group}

-- the leaf or the group with this id has something else in it
abbrev pub with_node : {N : Type 0} → (id : ℕ) → N → Forest N N → Forest N N
with_node id node forest = with_group id (λ old. node) (with_leaf id (λ old. node) forest)
