-- What the making of a group of edits comes to.
use Rattle.std.specs.Prelude.{◌≡◌, ℕ, if◌then◌else◌, List, [], Option, Result, Ok, Err}
use Rattle.spec_filters.specs.declared.FilterState.{FilterState}
use Rattle.spec_edit.specs.Edit.{Edit}
use Rattle.spec_edit.specs.Apply.{At, apply, apply_group}
use Rattle.spec_tables.specs.Agrees.{IsPartUsed}
use Rattle.spec_standing.specs.Group.{is_allowed}
use Rattle.xl_paint.specs.declared.refused.EditRefusedOrMemory.{EditRefusedOrMemory}
use Rattle.xl_paint.specs.declared.refused.EditRefusedOrMemory.TheVariants as edits
use Rattle.xl_standing.specs.declared.group.GroupRefusedOrMemory.{GroupRefusedOrMemory}
use Rattle.xl_standing.specs.declared.group.GroupRefusedOrMemory.TheVariants.{Memory, Refused}

-- the edit is applied whole with this table, or it is refused, or memory ran out
abbrev pub IsAppliedOne : (old new : At) → Edit → (table : List ℕ) → Result (Unit {0}) EditRefusedOrMemory → Type 0
IsAppliedOne old new edit table (Ok done) = apply old edit table ≡ Ok new
IsAppliedOne old new edit table (Err (edits.Refused cause)) = apply old edit table ≡ Err cause
IsAppliedOne old new edit table (Err edits.Memory) = Unit {0}

-- All edits are applied with these tables, or the first that is refused is named, or memory ran out. Only where all are is it said
-- what is left.
abbrev pub AppliesGroup : (old new : At) → List Edit → (tables : List (List ℕ)) → Result (Unit {0}) GroupRefusedOrMemory → Type 0
AppliesGroup old new edits tables (Ok done) = apply_group old edits tables ≡ Ok new
AppliesGroup old new edits tables (Err (Refused index cause)) =
    apply_group old edits tables ≡ Err (record { index = index; cause = cause })
AppliesGroup old new edits tables (Err Memory) = Unit {0}

-- where a group is not made with these tables, the edit that is refused is named, or memory ran out
abbrev pub IsRefusal : (old : At) → List Edit → (tables : List (List ℕ)) → GroupRefusedOrMemory → Type 0
IsRefusal old edits tables (Refused index cause) = apply_group old edits tables ≡ Err (record { index = index; cause = cause })
IsRefusal old edits tables Memory = Unit {0}

-- What a group that is not made leaves of a chest: all where it is refused; where memory ran out the first filters of a
-- group of which no edit is refused may have been asked.
abbrev pub LeavesChest : (old new : List (Option FilterState)) → At → List Edit → GroupRefusedOrMemory → Type 0
LeavesChest old new at edits (Refused index cause) = new ≡ old
LeavesChest old new at edits Memory = IsPartUsed old new (if is_allowed at edits then edits else [])
