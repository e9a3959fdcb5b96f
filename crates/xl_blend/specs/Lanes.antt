-- Lanes of vectors that hold bytes.
use Rattle.std.specs.Prelude.{◌≡◌, ℕ, ◌≤◌, Bool, true, false, List, length}
use Rattle.std.specs.Simd.Lanes.{Each1, zip2}
use Rattle.spec_document.specs.declared.Mode.{Mode}
use Rattle.spec_document.specs.declared.Mode.TheVariants.{Normal, Multiply, Screen, Overlay, Difference, Addition}
use Rattle.spec_document.specs.declared.Mode.TheVariants.{Subtract, DarkenOnly, LightenOnly, Divide, Dodge, Burn}
use Rattle.spec_document.specs.declared.Mode.TheVariants.{HardLight, SoftLight, GrainExtract, GrainMerge}
use Rattle.spec_document.specs.Over.{mean}

-- sixteen lanes with a byte each
abbrev pub AreBytes : List ℕ → Type 0
AreBytes v = (length v ≡ 16) × Each1 (λ x. x ≤ 255) v

-- the rounded means of lanes, where each of those above has its weight of 255
abbrev pub means : (weights above below : List ℕ) → List ℕ
means weights above below = zip2 (λ (mean_of : ℕ → ℕ) b. mean_of b) (zip2 (mean 255) weights above) below

-- the modes that look no quotient up
abbrev pub has_lanes : Mode → Bool
has_lanes Normal = true
has_lanes Multiply = true
has_lanes Screen = true
has_lanes Overlay = true
has_lanes Difference = true
has_lanes Addition = true
has_lanes Subtract = true
has_lanes DarkenOnly = true
has_lanes LightenOnly = true
has_lanes Divide = false
has_lanes Dodge = false
has_lanes Burn = false
has_lanes HardLight = true
has_lanes SoftLight = true
has_lanes GrainExtract = true
has_lanes GrainMerge = true
