-- A document has far fewer byte planes than 64 bits count.
use Rattle.std.proofs.Common.{◌≡◌, ℕ, zero, suc, ◌*◌, ◌^◌, ◌≤◌, ◌<◌, Bool, true, false, cond, List, [], ◌∷◌}
use Rattle.std.proofs.Common.{length, map, refl, arith, length-append}
use Rattle.std.specs.Prelude.{flat_map, Option, Some, None, ◌==◌}
use Rattle.std.specs.List.{AllByRecursion}
use Rattle.std.proofs.lemmas.List.{length-map}
use Rattle.std.proofs.lemmas.Nat.{mul-le}
use Rattle.spec_document.specs.declared.TileAt.{TileAt}
use Rattle.spec_document.specs.declared.TheConstants.{MAX_SIDE}
use Rattle.spec_document.specs.Rect.{count_from}
use Rattle.spec_document.specs.Grid.{tiles_along, all_tiles}
use Rattle.spec_document.specs.declared.Base.{Base}
use Rattle.spec_document.specs.declared.Owner.{Owner}
use Rattle.spec_document.specs.Plane.{Plane}
use Rattle.spec_document.specs.Document.{Document, Channel}
use Rattle.spec_document.specs.Limits.{IsSide, IsChannelIfAny, IsDocument}
use Rattle.spec_hierarchy.specs.Tiles.{tile_plane}
use Rattle.spec_hierarchy.specs.BytePlanes.{tile_planes, byte_planes}
use Rattle.spec_layout.specs.BytePlanes.{mask_planes, item_planes, sheet_planes, planes_of}
use Rattle.spec_layout.specs.Layout.{Item, items, Sheet, plain_sheet, selection_sheet, sheets}
use Rattle.xl_layout.specs.Writable.{IsSheetOf, IsWritableItem, IsWritableSheet}
use Rattle.xl_layout.proofs.Areas.{count_tiles}
use Rattle.xl_layout.proofs.Whole.{length_items}
use Rattle.xl_layout.proofs.Writable.{items_writable, sheets_writable}

count_length : (first n : ℕ) → length (count_from first n) ≡ n
count_length first zero = refl
count_length first (suc n) = omega (arith, count_length (suc first) n)

tile_few : (compression : ℕ) (p : Plane) (t : TileAt) → p.bpp ≤ 4 → length (tile_planes compression p t) ≤ 4
tile_few compression p t few = by (compression == 0)
  where
    by : (b : Bool) → length (cond b [] (map (tile_plane p t) (count_from 0 p.bpp))) ≤ 4
    by true = omega arith
    by false = omega (arith, length-map (count_from 0 p.bpp) (tile_plane p t), count_length 0 p.bpp, few)

tiles_few : (compression : ℕ) (p : Plane) (ts : List TileAt) → p.bpp ≤ 4
    → length (flat_map (tile_planes compression p) ts) ≤ 4 * length ts
tiles_few compression p [] few = omega arith
tiles_few compression p (t ∷ ts) few =
    omega (
      arith,
      length-append (tile_planes compression p t) (flat_map (tile_planes compression p) ts),
      tile_few compression p t few,
      tiles_few compression p ts few,
    )

along_few : (side : ℕ) → side ≤ MAX_SIDE → tiles_along side ≤ 256
along_few side few = omega (arith, few)

plane_few : (compression : ℕ) (p : Plane) → IsSide p.width → IsSide p.height → p.bpp ≤ 4
    → length (byte_planes compression p) ≤ 262144
plane_few compression p wide high few =
    let tiles = mul-le (tiles_along p.height) (tiles_along p.width) 256 256 (along_few p.height high.1) (along_few p.width wide.1) in
    omega (arith, tiles_few compression p (all_tiles p.width p.height) few, count_tiles p.width p.height, tiles)

mask_few : (compression : ℕ) (owner : Owner) (w h : ℕ) (m : Option Channel) → IsSide w → IsSide h → IsChannelIfAny owner w h m
    → length (mask_planes compression m) ≤ 262144
mask_few compression owner w h None wide high is = omega arith
mask_few compression owner w h (Some c) wide high is =
    plane_few compression c.plane
    (omega (arith, is.plane.width_is, wide.0), omega (arith, is.plane.width_is, wide.1))
    (omega (arith, is.plane.height_is, high.0), omega (arith, is.plane.height_is, high.1))
    (omega (arith, is.plane.bpp_is))

items_few : (compression : ℕ) (base : Base) (is : List Item) → AllByRecursion (IsWritableItem base) is
    → length (flat_map (item_planes compression) is) ≤ 524288 * length is
items_few compression base [] all = omega arith
items_few compression base (i ∷ is) all =
    let item : IsWritableItem base i = all.0 in
    omega (
      arith,
      length-append (item_planes compression i) (flat_map (item_planes compression) is),
      length-append (byte_planes compression i.plane) (mask_planes compression i.mask),
      plane_few compression i.plane item.plane.width item.plane.height item.plane.bpp,
      mask_few compression _ i.plane.width i.plane.height i.mask item.plane.width item.plane.height item.mask,
      items_few compression base is all.1,
    )

sheets_few : (compression : ℕ) (ss : List Sheet) → AllByRecursion IsWritableSheet ss
    → length (flat_map (sheet_planes compression) ss) ≤ 262144 * length ss
sheets_few compression [] all = omega arith
sheets_few compression (s ∷ ss) all =
    let plane : IsSheetOf s.channel.plane = all.0.plane in
    omega (
      arith,
      length-append (sheet_planes compression s) (flat_map (sheet_planes compression) ss),
      plane_few compression s.channel.plane plane.width plane.height plane.bpp,
      sheets_few compression ss all.1,
    )

one_selection : (c : Option Channel) → length (selection_sheet c) ≤ 1
one_selection None = omega arith
one_selection (Some c) = omega arith

pub planes_few : (d : Document) → IsDocument d → length (planes_of d) < 2 ^ 32
planes_few d is =
    let some = flat_map (item_planes d.compression) (items d) in
    let more = flat_map (sheet_planes d.compression) (sheets d) in
    omega (
      arith,
      length-append some more,
      items_few d.compression d.base (items d) (items_writable d is),
      length_items d [] 0 d.nodes,
      is.few,
      sheets_few d.compression (sheets d) (sheets_writable d is),
      length-append (map plain_sheet d.channels) (selection_sheet d.selection),
      length-map d.channels plain_sheet,
      one_selection d.selection,
      is.few_channels,
    )
