-- The looks of layers.
use Rattle.std.specs.Prelude.{◌≡◌, ◌≤◌, length, pos, ◌≤ℤ◌}
use Rattle.spec_document.specs.declared.TheConstants.{MAX_OFFSET}
use Rattle.spec_document.specs.Limits.{AreBytes}
use Rattle.spec_generated.specs.Generated.{Look}

-- a look that a layer of a document may have
pub record IsLook (l : Look) : Type 0 where
  pub x : pos l.x ≤ℤ MAX_OFFSET
  pub y : pos l.y ≤ℤ MAX_OFFSET
  pub opacity : l.opacity ≤ 255
  pub four : length l.pixel ≡ 4
  pub bytes : AreBytes l.pixel
