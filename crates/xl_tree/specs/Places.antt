-- Places in a forest, counted from the top.
use Rattle.std.specs.Prelude.{ℕ, zero, suc, ◌+◌, ◌==◌, if◌then◌else◌, Bool, true, false, List, [], ◌∷◌, Option, Some}
use Rattle.std.specs.Prelude.{None, option_map}
use Rattle.spec_document.specs.Forest.{Forest, none, leaf, group, size}

-- how many nodes come, in preorder, before what is put last in the group that a path names
abbrev pub end_at : {L G : Type 0} → (path : List ℕ) → Forest L G → Option ℕ
end_at [] forest = Some (size forest)
end_at (place ∷ path) none = None
end_at (zero ∷ path) (leaf id what under) = None
end_at (zero ∷ path) (group id what children under) = option_map (λ n. 1 + n) (end_at path children)
end_at (suc place ∷ path) (leaf id what under) = option_map (λ n. 1 + n) (end_at (place ∷ path) under)
end_at (suc place ∷ path) (group id what children under) = option_map (λ n. 1 + size children + n) (end_at (place ∷ path) under)

-- a node without children: a group, or a leaf
abbrev pub alone : {N : Type 0} → (mark : Bool) → (id : ℕ) → N → Forest N N
alone true id node = group id node none none
alone false id node = leaf id node none

abbrev pub first_some : {A : Type 0} → Option A → Option A → Option A
first_some None other = other
first_some (Some one) other = Some one

-- how many nodes come before the first with an id, in preorder
abbrev pub place_of : {L G : Type 0} → (id : ℕ) → Forest L G → Option ℕ
place_of id none = None
place_of id (leaf i what under) = if id == i then Some 0 else option_map (λ n. 1 + n) (place_of id under)
place_of id (group i what children under) =
    if id == i then Some 0 else first_some (option_map (λ n. 1 + n) (place_of id children))
    (option_map (λ n. 1 + size children + n) (place_of id under))
