-- The nodes at the top of a forest, and those of a stack.
use Rattle.std.specs.Prelude.{ℕ, Bool, false, ◌==◌, ◌||◌, Option, Some, None}
use Rattle.spec_document.specs.Forest.{Forest, none, leaf, group}

-- whether one of the nodes at the top has this id
abbrev pub is_at_top : {L G : Type 0} → (id : ℕ) → Forest L G → Bool
is_at_top id none = false
is_at_top id (leaf i what under) = id == i || is_at_top id under
is_at_top id (group i what children under) = id == i || is_at_top id under

-- the same of a stack, if there is one
abbrev pub is_child : {L G : Type 0} → (id : ℕ) → Option (Forest L G) → Bool
is_child id None = false
is_child id (Some stack) = is_at_top id stack
