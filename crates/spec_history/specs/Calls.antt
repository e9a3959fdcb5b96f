-- The limits that a call keeps by its type.
use Rattle.std.specs.Prelude.{ℕ, ◌≤◌, List, length}
use Rattle.std.specs.List.{AllByRecursion}
use Rattle.spec_edit.specs.Edit.{Edit, IsEdit}
use Rattle.spec_history.specs.Machine.{Call, edit, undo, redo, tile, peek, top}
use Rattle.spec_history.specs.declared.TheConstants.{MAX_EDITS}

-- a group has 1 to MAX_EDITS edits, each within its type
pub record IsGroupOfEdits (edits : List Edit) : Type 0 where
  pub some : 1 ≤ length edits
  pub few : length edits ≤ MAX_EDITS
  pub each : AllByRecursion IsEdit edits

abbrev pub IsCall : Call → Type 0
IsCall (edit guard edits) = IsGroupOfEdits edits
IsCall (undo named) = Unit {0}
IsCall redo = Unit {0}
IsCall (tile stack at) = Unit {0}
IsCall (peek stack at) = Unit {0}
IsCall top = Unit {0}
