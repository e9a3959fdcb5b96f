-- The blend modes, each as its formula on one colour byte. `below` is the byte under, `above` the byte on top.
-- Numbers do not wrap, `-` stops at 0 and `/` rounds down, so a difference below 0 counts as 0.
use Rattle.std.specs.Prelude.{ℕ, ◌+◌, ◌-◌, ◌*◌, ◌/◌, min, max, nat_lt, ◌==◌, if◌then◌else◌, Option, Some, None}
use Rattle.spec_document.specs.declared.Mode.{Mode}
use Rattle.spec_document.specs.declared.Mode.TheVariants.{Normal, Multiply, Screen, Overlay, Difference, Addition}
use Rattle.spec_document.specs.declared.Mode.TheVariants.{Subtract, DarkenOnly, LightenOnly, Divide, Dodge, Burn}
use Rattle.spec_document.specs.declared.Mode.TheVariants.{HardLight, SoftLight, GrainExtract, GrainMerge}

-- a times b in parts of 255, rounded to the nearest
abbrev pub mul : ℕ → ℕ → ℕ
mul a b = (2 * a * b + 255) / 510

abbrev pub screen : ℕ → ℕ → ℕ
screen below above = 255 - mul (255 - below) (255 - above)

abbrev pub hard_light : ℕ → ℕ → ℕ
hard_light below above =
    if nat_lt 128 above
    then 255 - (255 - below) * (255 - 2 * (above - 128)) / 256
    else 2 * below * above / 256

-- the value of a mode, before it is cut to a byte
abbrev pub blend_value : Mode → ℕ → ℕ → ℕ
blend_value Normal below above = above
blend_value Multiply below above = mul below above
blend_value Screen below above = screen below above
blend_value Overlay below above = mul below (below + mul (2 * above) (255 - below))
blend_value Difference below above = (below - above) + (above - below)
blend_value Addition below above = below + above
blend_value Subtract below above = below - above
blend_value DarkenOnly below above = min below above
blend_value LightenOnly below above = max below above
blend_value Divide below above = 256 * below / (above + 1)
blend_value Dodge below above = 256 * below / (256 - above)
blend_value Burn below above = 255 - 256 * (255 - below) / (above + 1)
blend_value HardLight below above = hard_light below above
blend_value SoftLight below above = mul (255 - below) (mul below above) + mul below (screen below above)
blend_value GrainExtract below above = below + 128 - above
blend_value GrainMerge below above = below + above - 128

-- the byte that a mode gives
abbrev pub blend : Mode → ℕ → ℕ → ℕ
blend mode below above = min 255 (blend_value mode below above)

-- the code of a mode in a file
abbrev pub mode_code : Mode → ℕ
mode_code Normal = 0
mode_code Multiply = 3
mode_code Screen = 4
mode_code Overlay = 5
mode_code Difference = 6
mode_code Addition = 7
mode_code Subtract = 8
mode_code DarkenOnly = 9
mode_code LightenOnly = 10
mode_code Divide = 15
mode_code Dodge = 16
mode_code Burn = 17
mode_code HardLight = 18
mode_code SoftLight = 19
mode_code GrainExtract = 20
mode_code GrainMerge = 21

-- the mode of a code, and none for a code that is refused
abbrev pub mode_of_code : ℕ → Option Mode
mode_of_code code =
    if code == 0 then Some Normal else
    if code == 3 then Some Multiply else
    if code == 4 then Some Screen else
    if code == 5 then Some Overlay else
    if code == 6 then Some Difference else
    if code == 7 then Some Addition else
    if code == 8 then Some Subtract else
    if code == 9 then Some DarkenOnly else
    if code == 10 then Some LightenOnly else
    if code == 15 then Some Divide else
    if code == 16 then Some Dodge else
    if code == 17 then Some Burn else
    if code == 18 then Some HardLight else
    if code == 19 then Some SoftLight else
    if code == 20 then Some GrainExtract else
    if code == 21 then Some GrainMerge else None
