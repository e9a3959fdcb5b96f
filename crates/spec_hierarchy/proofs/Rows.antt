-- A worked plane: 65 by 1 pixels of four bytes, run-length coded, in a tile of 64 by 1 and one of 1 by 1.
use Rattle.std.specs.Prelude.{◌≡◌, ℕ, zero, suc, List, [], ◌∷◌, ◌++◌, take, Ok, Err, refl}
use Rattle.spec_document.specs.declared.TileAt.{TileAt}
use Rattle.spec_document.specs.Grid.{all_tiles}
use Rattle.spec_fields.specs.declared.Kind.TheVariants.{Truncated, BadHierarchy}
use Rattle.spec_fields.specs.Reading.{fault}
use Rattle.spec_rle.specs.Reading.{codes_at, code_at}
use Rattle.spec_hierarchy.specs.Tiles.{tile_width}
use Rattle.spec_hierarchy.specs.Reading.{plain_at, planes_at, tile_at, tiles_at, hierarchy_at}

abbrev first : TileAt
first = record { col = 0; row = 0 }

abbrev last : TileAt
last = record { col = 1; row = 0 }

two_tiles : all_tiles 65 1 ≡ first ∷ last ∷ []
two_tiles = refl

first_width : tile_width 65 first ≡ 64
first_width = refl

last_width : tile_width 65 last ≡ 1
last_width = refl

abbrev file : List ℕ
file = 0 ∷ 0 ∷ 0 ∷ 65 ∷ 0 ∷ 0 ∷ 0 ∷ 1 ∷ 0 ∷ 0 ∷ 0 ∷ 4 ∷ 0 ∷ 0 ∷ 0 ∷ 20 ∷ 0 ∷ 0 ∷ 0 ∷ 0 ∷ 0 ∷ 0 ∷ 0 ∷ 65 ∷ 0 ∷ 0 ∷ 0 ∷ 1 ∷ 0 ∷ 0 ∷ 0
    ∷ 40 ∷ 0 ∷ 0 ∷ 0 ∷ 48 ∷ 0 ∷ 0 ∷ 0 ∷ 0 ∷ 63 ∷ 1 ∷ 63 ∷ 2 ∷ 63 ∷ 3 ∷ 63 ∷ 4 ∷ 0 ∷ 5 ∷ 0 ∷ 6 ∷ 0 ∷ 7 ∷ 0 ∷ 8 ∷ []

-- a pixel so many times
abbrev pixels : (n : ℕ) → List ℕ
pixels zero = []
pixels (suc n) = 1 ∷ 2 ∷ 3 ∷ 4 ∷ pixels n

spelled : hierarchy_at file 0 65 1 4 1 ≡ Ok (record { width = 65; height = 1; bpp = 4; bytes = pixels 64 ++ 5 ∷ 6 ∷ 7 ∷ 8 ∷ [] })
unfolding hierarchy_at tiles_at tile_at planes_at plain_at codes_at code_at
spelled = refl

-- the last tile lacks its last byte
cut : hierarchy_at (take 55 file) 0 65 1 4 1 ≡ Err (fault Truncated 54)
unfolding hierarchy_at tiles_at tile_at planes_at plain_at codes_at code_at
cut = refl

other_width : hierarchy_at file 0 64 1 4 1 ≡ Err (fault BadHierarchy 0)
unfolding hierarchy_at tiles_at tile_at planes_at plain_at codes_at code_at
other_width = refl
