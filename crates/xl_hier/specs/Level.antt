-- The parts of the reading of a plane.
use Rattle.std.specs.Prelude.{ℕ, ◌+◌, List, Ok}
use Rattle.spec_document.specs.Grid.{all_tiles}
use Rattle.spec_document.specs.Plane.{Plane}
use Rattle.spec_fields.specs.declared.Kind.TheVariants.{BadHierarchy}
use Rattle.spec_fields.specs.Reading.{Read, ◌>>=◌}
use Rattle.spec_hierarchy.specs.Tiles.{plane_of_tiles}
use Rattle.spec_hierarchy.specs.Reading.{same_word_at, pointer_at, tiles_at}

-- the offset of the level in use
abbrev pub level_at : (file : List ℕ) (at width height bpp : ℕ) → Read ℕ
level_at file at width height bpp = do
  _ ← same_word_at file at width BadHierarchy
  _ ← same_word_at file (at + 4) height BadHierarchy
  _ ← same_word_at file (at + 8) bpp BadHierarchy
  level ← pointer_at file (at + 12) BadHierarchy
  _ ← same_word_at file level width BadHierarchy
  _ ← same_word_at file (level + 4) height BadHierarchy
  Ok level

-- the plane whose pointers to tiles begin at an offset
abbrev pub pixels_at : (file : List ℕ) (at width height bpp compression : ℕ) → Read Plane
pixels_at file at width height bpp compression = do
  tiles ← tiles_at (all_tiles width height) file at width height bpp compression
  Ok (plane_of_tiles width height bpp tiles)
