-- Commands that read the source, those that read a file, and the one that makes it flat.
use Rattle.std.specs.Prelude.{Option, Some, None}
use Rattle.spec_command.specs.Arguments.{Asked, edit, render, info, make, pack, flatten, view, audit}

abbrev pub ReadsSource : Option Asked → Type 0
ReadsSource None = ⊥
ReadsSource (Some (edit name workers)) = Unit {0}
ReadsSource (Some (render name)) = ⊥
ReadsSource (Some (info name with_all)) = ⊥
ReadsSource (Some (make name seed)) = ⊥
ReadsSource (Some (pack name with_plans)) = ⊥
ReadsSource (Some (flatten name)) = ⊥
ReadsSource (Some (view name cols rows)) = Unit {0}
ReadsSource (Some (audit name)) = Unit {0}

-- a make saves a file, and reads none
abbrev pub ReadsFile : Option Asked → Type 0
ReadsFile None = ⊥
ReadsFile (Some (edit name workers)) = Unit {0}
ReadsFile (Some (render name)) = Unit {0}
ReadsFile (Some (info name with_all)) = Unit {0}
ReadsFile (Some (make name seed)) = ⊥
ReadsFile (Some (pack name with_plans)) = Unit {0}
ReadsFile (Some (flatten name)) = Unit {0}
ReadsFile (Some (view name cols rows)) = Unit {0}
ReadsFile (Some (audit name)) = Unit {0}

abbrev pub IsFlatten : Option Asked → Type 0
IsFlatten None = ⊥
IsFlatten (Some (edit name workers)) = ⊥
IsFlatten (Some (render name)) = ⊥
IsFlatten (Some (info name with_all)) = ⊥
IsFlatten (Some (make name seed)) = ⊥
IsFlatten (Some (pack name with_plans)) = ⊥
IsFlatten (Some (flatten name)) = Unit {0}
IsFlatten (Some (view name cols rows)) = ⊥
IsFlatten (Some (audit name)) = ⊥
