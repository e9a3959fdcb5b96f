-- The picture of a stack: its visible nodes laid over one another from the bottom.
use Rattle.std.specs.Prelude.{ℕ, ◌-◌, ◌*◌, min, Bool, true, false, ◌||◌, List, [], ◌∷◌, Option, Some, None, flat_map}
use Rattle.spec_document.specs.declared.Mode.{Mode}
use Rattle.spec_document.specs.declared.Mode.TheVariants.{Normal}
use Rattle.spec_document.specs.declared.Pixel.{Pixel}
use Rattle.spec_document.specs.Over.{over, clear}
use Rattle.spec_document.specs.Forest.{none, leaf, group, Found, nothing, a_leaf, a_group, find, stack_at}
use Rattle.spec_document.specs.declared.Rect.{Rect}
use Rattle.spec_document.specs.declared.TileAt.{TileAt}
use Rattle.spec_document.specs.Rect.{hull, meet, no_rect, sheet, count_from}
use Rattle.spec_document.specs.Document.{Document, Nodes, Layer, Group, layer_rect}
use Rattle.spec_document.specs.Source.{faded, layer_source}

-- whether some node is visible
abbrev pub any_visible : Nodes → Bool
any_visible none = false
any_visible (leaf id l under) = l.visible || any_visible under
any_visible (group id g children under) = g.visible || any_visible under

-- the bottommost visible node is laid as normal, whatever its mode
abbrev pub mode_above : (something_under : Bool) → Mode → Mode
mode_above true mode = mode
mode_above false mode = Normal

-- a hidden node changes nothing
abbrev pub laid : (visible : Bool) → Mode → (below above : Pixel) → Pixel
laid true mode below above = over mode below above
laid false mode below above = below

-- the pixel of a stack at a point: what is under the topmost node, and that node over it
abbrev pub stack_pixel : (colours : List (List ℕ)) → (x y : ℕ) → Nodes → Pixel
stack_pixel colours x y none = clear
stack_pixel colours x y (leaf id l under) =
    laid l.visible (mode_above (any_visible under) l.mode) (stack_pixel colours x y under) (layer_source colours l x y)
stack_pixel colours x y (group id g children under) =
    laid g.visible (mode_above (any_visible under) g.mode) (stack_pixel colours x y under)
    (faded g.opacity (stack_pixel colours x y children))

abbrev pub pixel_of : (colours : List (List ℕ)) → (x y : ℕ) → Option Nodes → Pixel
pixel_of colours x y None = clear
pixel_of colours x y (Some nodes) = stack_pixel colours x y nodes

-- the picture of a document's stack at a point of the canvas: 0 is the image, and any other stack a group
abbrev pub picture : Document → (stack : ℕ) → (x y : ℕ) → Pixel
picture d stack x y = pixel_of d.colours x y (stack_at stack d.nodes)

abbrev pub pixel_bytes : Pixel → List ℕ
pixel_bytes p = p.r ∷ p.g ∷ p.b ∷ p.a ∷ []

-- the bytes of the picture over a rectangle of the canvas, row by row
abbrev pub picture_bytes : Document → (stack : ℕ) → (x y w h : ℕ) → List ℕ
picture_bytes d stack x y w h =
    flat_map (λ v. flat_map (λ u. pixel_bytes (picture d stack u v)) (count_from x w)) (count_from y h)

-- the picture at the points of a tile that are on the canvas
abbrev pub project : Document → (stack : ℕ) → TileAt → List ℕ
project d stack at =
    picture_bytes d stack (64 * at.col) (64 * at.row) (min 64 (d.width - 64 * at.col)) (min 64 (d.height - 64 * at.row))

-- the least rectangle round all layers, hidden ones too
abbrev pub hull_of : Nodes → Rect
hull_of none = no_rect
hull_of (leaf id l under) = hull (layer_rect l) (hull_of under)
hull_of (group id g children under) = hull (hull_of children) (hull_of under)

abbrev pub rect_found : Found Layer Group → Rect
rect_found nothing = no_rect
rect_found (a_leaf l) = layer_rect l
rect_found (a_group g children) = hull_of children

-- the part of the canvas that a node can cover: a layer's rectangle, or the hull of those of all layers in a group
abbrev pub extent : Document → (id : ℕ) → Rect
extent d id = meet (rect_found (find id d.nodes)) (sheet d.width d.height)
