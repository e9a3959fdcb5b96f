-- Where something may be put into a forest.
use Rattle.std.specs.Prelude.{◌≡◌, ℕ, ◌==◌, if◌then◌else◌, Some}
use Rattle.spec_document.specs.Forest.{Forest, stack_at}
use Rattle.spec_document.specs.Changes.{above, put_into, with_children}
use Rattle.spec_document.specs.Holes.{Hole, plug, depth, passed}

-- the nodes of a stack are changed
abbrev pub with_stack : {L G : Type 0} → (stack : ℕ) → (Forest L G → Forest L G) → Forest L G → Forest L G
with_stack stack change forest = if stack == 0 then change forest else with_children stack change forest

-- these are the nodes of a stack; so many come before them, and they are at this level
pub record IsStackAt {N : Type 0} (stack : ℕ) (forest nodes : Forest N N) (at level : ℕ) : Type 0 where
  pub hole : Hole N N
  pub forest_is : forest ≡ plug hole nodes
  pub at_is : passed hole ≡ at
  pub level_is : depth hole ≡ level
  pub stack_is : stack_at stack forest ≡ Some nodes
  pub change_is : (change : Forest N N → Forest N N) → with_stack stack change forest ≡ plug hole (change nodes)

-- what is put in after so many nodes, at this level, comes to the place of the stack
pub record IsSlot {N : Type 0} (stack place : ℕ) (forest : Forest N N) (at level : ℕ) : Type 0 where
  pub hole : Hole N N
  pub under : Forest N N
  pub forest_is : forest ≡ plug hole under
  pub at_is : passed hole ≡ at
  pub level_is : depth hole ≡ level
  pub put_is : (branch : Forest N N) → put_into stack place branch forest ≡ plug hole (above branch under)
