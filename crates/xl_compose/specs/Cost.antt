-- How many steps a picture takes at a point.
use Rattle.std.specs.Prelude.{ℕ, ◌+◌, ◌*◌, Bool, true, false, List, Option, Some, None}
use Rattle.spec_document.specs.Forest.{none, leaf, group, stack_at}
use Rattle.spec_document.specs.declared.TileAt.{TileAt}
use Rattle.spec_document.specs.Grid.{tile_rect}
use Rattle.spec_document.specs.Document.{Document, Nodes}

abbrev pub one_if : Bool → ℕ
one_if true = 1
one_if false = 0

-- a visible group with so many visible nodes in it; nothing in a hidden one is laid
abbrev pub visible_with : (visible : Bool) (inside : ℕ) → ℕ
visible_with true inside = 1 + inside
visible_with false inside = 0

-- the visible nodes of a stack and of the visible groups in it
abbrev pub visible_in : Nodes → ℕ
visible_in none = 0
visible_in (leaf id l under) = one_if l.visible + visible_in under
visible_in (group id g children under) = visible_with g.visible (visible_in children) + visible_in under

abbrev pub visible_of : Option Nodes → ℕ
visible_of None = 0
visible_of (Some nodes) = visible_in nodes

-- those below a document's stack
abbrev pub visible_below : Document → (stack : ℕ) → ℕ
visible_below d stack = visible_of (stack_at stack d.nodes)

-- the tile's own pixels: 4096, or fewer where the canvas ends within it
abbrev pub tile_points : Document → TileAt → ℕ
tile_points d at = (tile_rect d.width d.height at).w * (tile_rect d.width d.height at).h

-- ---- where the pictures of some groups are given

-- the nodes in a group, none of them where its picture is given
abbrev pub spared : (given : Option (List ℕ)) (inside : ℕ) → ℕ
spared None inside = inside
spared (Some picture) inside = 0

-- the visible nodes that are laid: a group whose picture is given is one node, and nothing in it is laid
abbrev pub laid_in : (clean : ℕ → Option (List ℕ)) → Nodes → ℕ
laid_in clean none = 0
laid_in clean (leaf id l under) = one_if l.visible + laid_in clean under
laid_in clean (group id g children under) =
    visible_with g.visible (spared (clean id) (laid_in clean children)) + laid_in clean under

abbrev pub laid_of : (clean : ℕ → Option (List ℕ)) → Option Nodes → ℕ
laid_of clean None = 0
laid_of clean (Some nodes) = laid_in clean nodes

-- those below a document's stack
abbrev pub laid_below : (clean : ℕ → Option (List ℕ)) → Document → (stack : ℕ) → ℕ
laid_below clean d stack = laid_of clean (stack_at stack d.nodes)
