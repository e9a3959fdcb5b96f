-- A property that reading found right.
use Rattle.std.specs.Prelude.{◌≡◌, ◌≢◌, ℕ, ◌+◌, ◌*◌, List, ◌^◌, ◌<◌, ◌≤◌, length, true, None}
use Rattle.spec_document.specs.declared.Owner.{Owner}
use Rattle.spec_document.specs.Limits.{AreBytes}
use Rattle.spec_fields.specs.Field.{word_value}
use Rattle.spec_props.specs.Meaning.{Property}
use Rattle.spec_props.specs.Rules.{rule_of}
use Rattle.spec_props.specs.Reading.{is_colour_map}
use Rattle.spec_props.specs.Holds.{IsColourMap}
use Rattle.spec_document.specs.declared.TheConstants.{MAX_COLOURS, MAX_PAYLOAD}

-- a colour map at an offset of a file has this length
abbrev pub IsMapLength : (file : List ℕ) → (at n : ℕ) → Type 0
IsMapLength file at n = (word_value file at ≤ MAX_COLOURS) × (n ≡ 4 + 3 * word_value file at)

pub record IsChecked (owner : Owner) (p : Property) : Type 0 where
  pub kind : p.kind < 2 ^ 32
  pub not_end : p.kind ≢ 0
  pub bytes : AreBytes p.payload
  pub short : length p.payload ≤ MAX_PAYLOAD
  pub colours : is_colour_map owner p.kind ≡ true → IsColourMap p
  -- wherever it stands
  pub rules : rule_of owner (record p { at = 0 }) ≡ None
