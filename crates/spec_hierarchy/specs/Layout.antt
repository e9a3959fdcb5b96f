-- A plane as it is written at an offset: its hierarchy, its one level and its tiles, without a gap.
use Rattle.std.specs.Prelude.{◌≡◌, ℕ, ◌+◌, ◌*◌, ◌≤◌, ◌==◌, List, [], ◌∷◌, ◌++◌, length, map, flat_map, MatchBool}
use Rattle.std.specs.Int.{w32, to_be_bytes}
use Rattle.std.specs.List.{concat}
use Rattle.spec_document.specs.declared.TileAt.{TileAt}
use Rattle.spec_document.specs.Rect.{count_from}
use Rattle.spec_document.specs.Grid.{all_tiles}
use Rattle.spec_document.specs.Plane.{Plane}
use Rattle.spec_rle.specs.declared.TheConstants.{MAX_EXCESS}
use Rattle.spec_rle.specs.Codes.{Spells}
use Rattle.spec_hierarchy.specs.Tiles.{tile_bytes, tile_plane}

abbrev pub words : List ℕ → List ℕ
words ns = flat_map (to_be_bytes w32) ns

-- where each piece begins, if the first begins at an offset and they follow without a gap
abbrev pub places_from : (first : ℕ) → List (List ℕ) → List ℕ
places_from first [] = []
places_from first (piece ∷ pieces) = first ∷ places_from (first + length piece) pieces

-- each plane is spelled as its coder spells it, in at most MAX_EXCESS bytes more than it has
abbrev pub AreSpelled : (fits : List ℕ → List ℕ → Type 0) → List ℕ → List (List ℕ) → Type 0
AreSpelled fits bytes [] = bytes ≡ []
AreSpelled fits bytes (plane ∷ planes) =
    (spelled : List ℕ) × (rest : List ℕ) × Spells spelled plane × (length spelled ≤ length plane + MAX_EXCESS)
    × fits plane spelled × (bytes ≡ spelled ++ rest)
    × AreSpelled fits rest planes

-- the pixels of a tile as they are, or a spelling for each of the bytes of a pixel
abbrev pub IsTile : (fits : List ℕ → List ℕ → Type 0) → (compression : ℕ) → Plane → TileAt → List ℕ → Type 0
IsTile fits compression p t bytes =
    MatchBool (compression == 0) (bytes ≡ tile_bytes p t) (AreSpelled fits bytes (map (tile_plane p t) (count_from 0 p.bpp)))

abbrev pub AreTiles : (fits : List ℕ → List ℕ → Type 0) → (compression : ℕ) → Plane → List TileAt → List (List ℕ) → Type 0
AreTiles fits compression p [] [] = Unit {0}
AreTiles fits compression p [] (tile ∷ tiles) = ⊥
AreTiles fits compression p (t ∷ ts) [] = ⊥
AreTiles fits compression p (t ∷ ts) (tile ∷ tiles) = IsTile fits compression p t tile × AreTiles fits compression p ts tiles

-- the hierarchy, with the level behind it, and the tiles behind that
abbrev pub plane_layout : (at : ℕ) → Plane → (tiles : List (List ℕ)) → List ℕ
plane_layout at p tiles =
    words (p.width ∷ p.height ∷ p.bpp ∷ (at + 20) ∷ 0 ∷ [])
    ++ (words (p.width ∷ p.height ∷ (places_from (at + 32 + 4 * length tiles) tiles ++ 0 ∷ []))
    ++ concat tiles)

-- the plane is written in these bytes, if they begin at the offset
abbrev pub IsWrittenPlane : (fits : List ℕ → List ℕ → Type 0) → (compression at : ℕ) → Plane → List ℕ → Type 0
IsWrittenPlane fits compression at p bytes =
    (tiles : List (List ℕ)) × AreTiles fits compression p (all_tiles p.width p.height) tiles × (bytes ≡ plane_layout at p tiles)
