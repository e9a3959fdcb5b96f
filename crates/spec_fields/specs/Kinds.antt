-- The numbers of the kinds of refusal, as they are told to a user.
use Rattle.std.specs.Prelude.{ℕ}
use Rattle.spec_fields.specs.declared.Kind.{Kind}
use Rattle.spec_fields.specs.declared.Kind.TheVariants.{NotXcf, Version, Truncated, BadSize, BaseType, OldColourMap}
use Rattle.spec_fields.specs.declared.Kind.TheVariants.{NoColourMap, BadProperty, BadString, ModeRefused, Compression}
use Rattle.spec_fields.specs.declared.Kind.TheVariants.{FloatingSelection, LayerType, MaskSize, GroupMask}
use Rattle.spec_fields.specs.declared.Kind.TheVariants.{GroupInIndexed, BadPath, BadHierarchy, BadRun, TwoSelections}
use Rattle.spec_fields.specs.declared.Kind.TheVariants.{ChannelSize, TooMany, TooLarge, OffsetRange}

abbrev pub kind_number : Kind → ℕ
kind_number NotXcf = 1
kind_number Version = 2
kind_number Truncated = 3
kind_number BadSize = 4
kind_number BaseType = 5
kind_number OldColourMap = 6
kind_number NoColourMap = 7
kind_number BadProperty = 8
kind_number BadString = 9
kind_number ModeRefused = 10
kind_number Compression = 11
kind_number FloatingSelection = 12
kind_number LayerType = 13
kind_number MaskSize = 14
kind_number GroupMask = 15
kind_number GroupInIndexed = 16
kind_number BadPath = 17
kind_number BadHierarchy = 18
kind_number BadRun = 19
kind_number TwoSelections = 20
kind_number ChannelSize = 21
kind_number TooMany = 22
kind_number TooLarge = 23
kind_number OffsetRange = 24
