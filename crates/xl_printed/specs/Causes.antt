-- What stands behind the numbers of refusals in the code's table.
use Rattle.std.specs.Prelude.{◌^◌, Option, Some, None}
use Rattle.spec_edit.specs.declared.EditRefused.TheVariants as refused
use Rattle.std.specs.Prelude.{ℕ, List}
use Rattle.spec_script.specs.Words.{◌>>=◌, one, number_below}
use Rattle.spec_audit.specs.Reading.{CauseRest, without_value, with_value}
use Rattle.xl_printed.specs.declared.causes.Code.{Code}
use Rattle.xl_printed.specs.declared.causes.Code.TheVariants.{NoNode, IsGroup, NotGroup, Inside, BadPlace, OutsideLayer, OtherType, NoMask}
use Rattle.xl_printed.specs.declared.causes.Code.TheVariants.{HasMask, NoChannel, NotIndexed, ModeRefused, TooMany, TooLarge, OffsetRange}
use Rattle.xl_printed.specs.declared.causes.Code.TheVariants.{BadName, GroupInIndexed, Locked, TooDeep}

-- the number that is the only word
abbrev pub only_number : (limit : ℕ) → List (List ℕ) → Option ℕ
only_number limit words = one words >>= λ word. number_below limit word

abbrev pub cause_of : Code → CauseRest
cause_of NoNode = with_value (2 ^ 32) refused.NoNode
cause_of IsGroup = with_value (2 ^ 32) refused.IsGroup
cause_of NotGroup = with_value (2 ^ 32) refused.NotGroup
cause_of Inside = with_value (2 ^ 32) refused.Inside
cause_of BadPlace = with_value (2 ^ 32) refused.BadPlace
cause_of OutsideLayer = without_value refused.OutsideLayer
cause_of OtherType = without_value refused.OtherType
cause_of NoMask = without_value refused.NoMask
cause_of HasMask = without_value refused.HasMask
cause_of NoChannel = with_value (2 ^ 32) refused.NoChannel
cause_of NotIndexed = without_value refused.NotIndexed
cause_of ModeRefused = with_value (2 ^ 32) refused.ModeRefused
cause_of TooMany = with_value (2 ^ 32) refused.TooMany
cause_of TooLarge = with_value (2 ^ 64) refused.TooLarge
cause_of OffsetRange = without_value refused.OffsetRange
cause_of BadName = without_value refused.BadName
cause_of GroupInIndexed = without_value refused.GroupInIndexed
cause_of Locked = with_value (2 ^ 32) refused.Locked
cause_of TooDeep = with_value (2 ^ 32) refused.TooDeep

abbrev pub cause_if_any : Option Code → CauseRest
cause_if_any None words = None
cause_if_any (Some code) words = cause_of code words
