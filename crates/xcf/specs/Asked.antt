-- Calls that need no filter, and the replies that an editor gets.
use Rattle.std.specs.Prelude.{List, Option, Some, None, Result, Ok, Err}
use Rattle.spec_edit.specs.Edit.{Edit}
use Rattle.spec_history.specs.Machine as machine
use Rattle.spec_history.specs.Machine.{Call, Reply}
use Rattle.xcf.specs.Plain.{IsPlainGroup, IsChecked}
use Rattle.xcf.specs.declared.changed.Changed.{Changed}
use Rattle.xcf.specs.declared.errors.NotEdited.{NotEdited}
use Rattle.xcf.specs.declared.errors.NotEdited.TheVariants as errors

-- a group of plain edits, an undo, a redo, a tile or the top
abbrev pub IsPlainCall : Call → Type 0
IsPlainCall (machine.edit guard edits) = IsPlainGroup edits
IsPlainCall (machine.undo named) = Unit {0}
IsPlainCall machine.redo = Unit {0}
IsPlainCall (machine.tile stack at) = Unit {0}
IsPlainCall (machine.peek stack at) = ⊥
IsPlainCall machine.top = Unit {0}

-- it asks for a new version: a group of edits, an undo, or a redo
abbrev pub IsOwnCall : Call → Type 0
IsOwnCall (machine.edit guard edits) = Unit {0}
IsOwnCall (machine.undo named) = Unit {0}
IsOwnCall machine.redo = Unit {0}
IsOwnCall (machine.tile stack at) = ⊥
IsOwnCall (machine.peek stack at) = ⊥
IsOwnCall machine.top = ⊥

-- what it is answered
abbrev pub IsOwn : Reply → Type 0
IsOwn (machine.changed version group next) = Unit {0}
IsOwn (machine.refused index cause) = Unit {0}
IsOwn machine.nothing_to_undo = Unit {0}
IsOwn machine.nothing_to_redo = Unit {0}
IsOwn machine.history_full = Unit {0}
IsOwn (machine.moved now) = Unit {0}
IsOwn (machine.not_top top) = Unit {0}
IsOwn (machine.tile_of version) = ⊥
IsOwn (machine.stale have seen) = ⊥
IsOwn (machine.no_stack node) = ⊥
IsOwn machine.outside_tile = ⊥
IsOwn (machine.top_is group version) = ⊥
IsOwn (machine.saved version) = ⊥
IsOwn (machine.save_fault version) = ⊥
IsOwn (machine.save_memory version) = ⊥

-- the reply that a call's outcome stands for; there is none where nothing was asked
abbrev pub reply_in : Result Changed NotEdited → Option Reply
reply_in (Ok made) = Some (machine.changed made.version made.group made.next)
reply_in (Err (errors.Refused index cause)) = Some (machine.refused index cause)
reply_in (Err errors.NothingToUndo) = Some machine.nothing_to_undo
reply_in (Err errors.NothingToRedo) = Some machine.nothing_to_redo
reply_in (Err errors.HistoryFull) = Some machine.history_full
reply_in (Err (errors.Moved now)) = Some (machine.moved now)
reply_in (Err (errors.NotTop top)) = Some (machine.not_top top)
reply_in (Err (errors.NotGroup flaw)) = None
reply_in (Err errors.NoIds) = None
reply_in (Err errors.Memory) = None

-- what is wrong with a group that was not asked, or memory ran out
abbrev pub Fails : List Edit → NotEdited → Type 0
Fails edits (errors.NotGroup flaw) = IsChecked edits (Err flaw)
Fails edits errors.NoIds = ⊥
Fails edits errors.Memory = Unit {0}
Fails edits (errors.Refused index cause) = Unit {0}
Fails edits errors.NothingToUndo = Unit {0}
Fails edits errors.NothingToRedo = Unit {0}
Fails edits errors.HistoryFull = Unit {0}
Fails edits (errors.Moved now) = Unit {0}
Fails edits (errors.NotTop top) = Unit {0}
