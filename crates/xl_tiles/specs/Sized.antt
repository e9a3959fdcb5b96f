-- The sides and the bytes per pixel that a plane may have.
use Rattle.std.specs.Prelude.{◌≤◌}
use Rattle.spec_document.specs.Plane.{Plane, IsPlane}
use Rattle.spec_document.specs.Limits.{IsSide}

pub record IsSized (p : Plane) : Type 0 where
  pub width : IsSide p.width
  pub height : IsSide p.height
  pub some : 1 ≤ p.bpp
  pub few : p.bpp ≤ 4
  pub plane : IsPlane p
