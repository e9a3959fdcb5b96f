-- A forest with a hole: where a node stands, and where one may be put.
use Rattle.std.specs.Prelude.{ℕ, zero, suc, ◌+◌}
use Rattle.spec_document.specs.Forest.{Forest, none, leaf, group, size}

-- what stands before a place: the nodes above it, and the groups round it with what is under them
pub data Hole (L G : Type 0) : Type 0 where
  here : Hole L G
  under_leaf : (id : ℕ) (what : L) (hole : Hole L G) → Hole L G
  under_group : (id : ℕ) (what : G) (children : Forest L G) (hole : Hole L G) → Hole L G
  in_group : (id : ℕ) (what : G) (hole : Hole L G) (under : Forest L G) → Hole L G

-- a forest from the place on
abbrev pub plug : {L G : Type 0} → Hole L G → Forest L G → Forest L G
plug here f = f
plug (under_leaf id w h) f = leaf id w (plug h f)
plug (under_group id w c h) f = group id w c (plug h f)
plug (in_group id w h u) f = group id w (plug h f) u

-- how many groups are round the place
abbrev pub depth : {L G : Type 0} → Hole L G → ℕ
depth here = 0
depth (under_leaf id w h) = depth h
depth (under_group id w c h) = depth h
depth (in_group id w h u) = suc (depth h)

-- how many nodes are before the place
abbrev pub passed : {L G : Type 0} → Hole L G → ℕ
passed here = 0
passed (under_leaf id w h) = 1 + passed h
passed (under_group id w c h) = 1 + size c + passed h
passed (in_group id w h u) = 1 + passed h

-- the forest from a place at the top on
abbrev pub from_place : {L G : Type 0} → (place : ℕ) → Forest L G → Forest L G
from_place zero forest = forest
from_place (suc place) none = none
from_place (suc place) (leaf id what under) = from_place place under
from_place (suc place) (group id what children under) = from_place place under
