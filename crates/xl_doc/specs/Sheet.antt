-- The pixels of a layer and their place, without what a layer shares with a group.
use Rattle.std.specs.Prelude.{◌≡◌, ℕ, ◌≤◌, Bool, ℤ, Option, Some, None}
use Rattle.spec_document.specs.Plane.{Plane}
use Rattle.spec_document.specs.Document as doc
use Rattle.spec_document.specs.Document.{bytes_of_kind}
use Rattle.spec_document.specs.Limits.{IsOffset}

pub record Sheet : Type 0 where
  pub kind : ℕ
  pub x : ℤ
  pub y : ℤ
  pub plane : Plane
  pub mask : Option doc.Channel
  pub apply_mask : Bool

-- a mask has the sides of its layer
abbrev pub FitsMask : Plane → Option doc.Channel → Type 0
FitsMask plane None = Unit {0}
FitsMask plane (Some mask) = (mask.plane.width ≡ plane.width) × (mask.plane.height ≡ plane.height)

-- the kind, the offsets and the sizes agree
pub record IsSheet (s : Sheet) : Type 0 where
  pub kind : s.kind ≤ 5
  pub x : IsOffset s.x
  pub y : IsOffset s.y
  pub bpp : s.plane.bpp ≡ bytes_of_kind s.kind
  pub mask : FitsMask s.plane s.mask
