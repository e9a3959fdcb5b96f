-- The least version of the format that can hold a document.
use Rattle.std.specs.Prelude.{ℕ, Bool, true, false, ◌||◌, nat_le, if◌then◌else◌}
use Rattle.spec_document.specs.Blend.{mode_code}
use Rattle.spec_document.specs.declared.Mode.{Mode}
use Rattle.spec_document.specs.Forest.{none, leaf, group}
use Rattle.spec_document.specs.declared.Base.{Base}
use Rattle.spec_document.specs.declared.Base.TheVariants.{Rgb, Grey, Indexed}
use Rattle.spec_document.specs.Document.{Document, Nodes}

abbrev pub has_group : Nodes → Bool
has_group none = false
has_group (leaf id l under) = has_group under
has_group (group id g children under) = true

-- the modes that came with version 2 of the format: soft light, grain extract and grain merge
abbrev pub is_late : Mode → Bool
is_late mode = nat_le 19 (mode_code mode)

abbrev pub has_late_mode : Nodes → Bool
has_late_mode none = false
has_late_mode (leaf id l under) = is_late l.mode || has_late_mode under
has_late_mode (group id g children under) = (is_late g.mode || has_late_mode children) || has_late_mode under

abbrev pub indexed_version : Base → ℕ
indexed_version Rgb = 0
indexed_version Grey = 0
indexed_version Indexed = 1

-- 3 for groups, 2 for the late modes, 1 for indexed images
abbrev pub least_version : Document → ℕ
least_version d = if has_group d.nodes then 3 else if has_late_mode d.nodes then 2 else indexed_version d.base
