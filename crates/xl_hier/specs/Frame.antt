-- The limits of a plane that is read or written.
use Rattle.std.specs.Prelude.{ℕ, ◌≤◌}
use Rattle.spec_document.specs.Limits.{IsSide}

pub record IsFrame (width height bpp compression : ℕ) : Type 0 where
  pub width_in : IsSide width
  pub height_in : IsSide height
  pub some : 1 ≤ bpp
  pub few : bpp ≤ 4
  pub known : compression ≤ 1
