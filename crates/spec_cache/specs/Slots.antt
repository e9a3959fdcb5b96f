-- The slots of a stack, one for each tile of the canvas. A slot keeps a picture of its tile, or none yet.
-- Where it is marked, its picture is that of an earlier version at best.
use Rattle.std.specs.Prelude.{◌≡◌, ℕ, suc, ◌+◌, ◌-◌, ◌*◌, ◌/◌, ◌%◌, ◌==◌, ◌&&◌, Bool, true, false, if◌then◌else◌, List}
use Rattle.std.specs.Prelude.{[], ◌∷◌, length, map, filter, replicate, slice_get, Option, Some, None}
use Rattle.std.specs.List.{list_any}
use Rattle.spec_document.specs.declared.Rect.{Rect}
use Rattle.spec_document.specs.declared.TileAt.{TileAt}
use Rattle.spec_document.specs.Rect.{do_meet}
use Rattle.spec_document.specs.Grid.{same_tile, tiles_along, is_on_grid, tile_rect}

-- A picture or none; the last version of which a marked slot's picture is known to be; whether the slot is marked;
-- and the version of its
-- last mark, which stays when the slot becomes clean, so that an older picture never comes onto a newer one.
pub record Slot : Type 0 where
  pub picture : Option (List ℕ)
  pub good_to : ℕ
  pub marked : Bool
  pub marked_at : ℕ

-- row by row, for a canvas of these sides
pub record Slots : Type 0 where
  pub width : ℕ
  pub height : ℕ
  pub each : List Slot

-- one for each tile of a canvas of these sides
pub record AreOfCanvas (w h : ℕ) (s : Slots) : Type 0 where
  pub width_is : s.width ≡ w
  pub height_is : s.height ≡ h
  pub full : length s.each ≡ tiles_along w * tiles_along h

-- a slot that is marked and has no picture
abbrev pub blank_slot : (version : ℕ) → Slot
blank_slot version = record { picture = None; good_to = 0; marked = true; marked_at = version }

abbrev pub blank_slots : (width height version : ℕ) → Slots
blank_slots w h version = record { width = w; height = h; each = replicate (tiles_along w * tiles_along h) (blank_slot version) }

abbrev pub slot_at : Slots → TileAt → Option Slot
slot_at s at = if is_on_grid s.width s.height at then slice_get s.each (at.row * tiles_along s.width + at.col) else None

-- the tile of a number, row by row
abbrev pub tile_numbered : (width : ℕ) → ℕ → TileAt
tile_numbered width number = record { col = number % tiles_along width; row = number / tiles_along width }

abbrev pub tiled_from : (width first : ℕ) → List Slot → List (TileAt × Slot)
tiled_from width first [] = []
tiled_from width first (s ∷ ss) = (tile_numbered width first, s) ∷ tiled_from width (suc first) ss

-- each slot with its tile
abbrev pub with_tiles : Slots → List (TileAt × Slot)
with_tiles s = tiled_from s.width 0 s.each

abbrev pub change_slots : (TileAt → Slot → Slot) → Slots → Slots
change_slots change s = record s { each = map (λ p. change p.0 p.1) (with_tiles s) }

-- the slot of one tile is changed
abbrev pub change_slot : TileAt → (Slot → Slot) → Slots → Slots
change_slot at change s = change_slots (λ tile slot. if same_tile tile at then change slot else slot) s

-- ---- marking

-- a clean slot was good up to the version before; a marked one keeps what it was good to
abbrev pub mark_slot : (version : ℕ) → Slot → Slot
mark_slot version s = record s { good_to = if s.marked then s.good_to else version - 1; marked = true; marked_at = version }

-- the slots whose tiles share a point with some of the rectangles
abbrev pub mark_slots : (rects : List Rect) → (version : ℕ) → Slots → Slots
mark_slots rects version s =
    change_slots
    (λ tile slot. if list_any (λ r. do_meet r (tile_rect s.width s.height tile)) rects then mark_slot version slot else slot) s

-- the tiles whose slots are marked, row by row
abbrev pub marked_tiles : Slots → List TileAt
marked_tiles s = map (λ p. p.0) (filter (λ p. p.1.marked) (with_tiles s))

-- ---- pictures

-- the slot keeps this picture and is clean
abbrev pub fill_slot : (picture : List ℕ) → Slot → Slot
fill_slot picture s = record s { picture = Some picture; marked = false }

-- a picture, and the last version of which it is known to be
pub record Shown : Type 0 where
  pub version : ℕ
  pub picture : List ℕ

abbrev pub shown_as : (version : ℕ) → Option (List ℕ) → Option Shown
shown_as version None = None
shown_as version (Some picture) = Some (record { version = version; picture = picture })

-- what the slot keeps: of the latest version where it is clean
abbrev pub shown_by : (latest : ℕ) → Slot → Option Shown
shown_by latest s = shown_as (if s.marked then s.good_to else latest) s.picture
