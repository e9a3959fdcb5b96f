-- The replies that the outcomes of a session's calls stand for; there is none where nothing was asked.
use Rattle.std.specs.Prelude.{ℕ, Option, Some, None, Result, Ok, Err}
use Rattle.spec_history.specs.Machine as machine
use Rattle.spec_history.specs.Machine.{Reply}
use Rattle.xcf.specs.declared.errors.NotShown.{NotShown}
use Rattle.xcf.specs.declared.errors.NotShown.TheVariants as flaws
use Rattle.xcf_sessions.specs.declared.errors.NotSaved.{NotSaved}
use Rattle.xcf_sessions.specs.declared.errors.NotSaved.TheVariants as faults
use Rattle.xcf_sessions.specs.declared.shown.Shown.{Shown}

-- of a tile or a peek
abbrev pub reply_shown : Result Shown NotShown → Option Reply
reply_shown (Ok shown) = Some (machine.tile_of shown.version)
reply_shown (Err (flaws.NoStack node)) = Some (machine.no_stack node)
reply_shown (Err flaws.OutsideTile) = Some machine.outside_tile
reply_shown (Err (flaws.Stale have seen)) = Some (machine.stale have seen)
reply_shown (Err flaws.HistoryFull) = Some machine.history_full
reply_shown (Err flaws.Memory) = None

-- of a save
abbrev pub reply_saved : Result ℕ NotSaved → Option Reply
reply_saved (Ok version) = Some (machine.saved version)
reply_saved (Err (faults.Fault version)) = Some (machine.save_fault version)
reply_saved (Err (faults.NoMemory version)) = Some (machine.save_memory version)
reply_saved (Err faults.HistoryFull) = Some machine.history_full
reply_saved (Err faults.Memory) = None

-- it is the reply to a tile or a peek
abbrev pub IsOfTile : Reply → Type 0
IsOfTile (machine.tile_of version) = Unit {0}
IsOfTile (machine.stale have seen) = Unit {0}
IsOfTile (machine.no_stack node) = Unit {0}
IsOfTile machine.outside_tile = Unit {0}
IsOfTile machine.history_full = Unit {0}
IsOfTile (machine.changed version group next) = ⊥
IsOfTile (machine.refused index cause) = ⊥
IsOfTile machine.nothing_to_undo = ⊥
IsOfTile machine.nothing_to_redo = ⊥
IsOfTile (machine.moved now) = ⊥
IsOfTile (machine.not_top top) = ⊥
IsOfTile (machine.top_is group version) = ⊥
IsOfTile (machine.saved version) = ⊥
IsOfTile (machine.save_fault version) = ⊥
IsOfTile (machine.save_memory version) = ⊥

-- it is the reply to a save
abbrev pub IsOfSave : Reply → Type 0
IsOfSave (machine.saved version) = Unit {0}
IsOfSave (machine.save_fault version) = Unit {0}
IsOfSave (machine.save_memory version) = Unit {0}
IsOfSave machine.history_full = Unit {0}
IsOfSave (machine.tile_of version) = ⊥
IsOfSave (machine.stale have seen) = ⊥
IsOfSave (machine.no_stack node) = ⊥
IsOfSave machine.outside_tile = ⊥
IsOfSave (machine.changed version group next) = ⊥
IsOfSave (machine.refused index cause) = ⊥
IsOfSave machine.nothing_to_undo = ⊥
IsOfSave machine.nothing_to_redo = ⊥
IsOfSave (machine.moved now) = ⊥
IsOfSave (machine.not_top top) = ⊥
IsOfSave (machine.top_is group version) = ⊥
