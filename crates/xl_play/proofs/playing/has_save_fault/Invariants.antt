use Rattle.std.proofs.Common.{◌≡◌, take}
use Rattle.spec_saves.specs.Names.{save_faults}
use Rattle.xl_play.proofs.playing.has_save_fault.Given as goal

abbrev pub invariant-loop-entry : goal.invariant-loop-entry
invariant-loop-entry l = save_faults (take l.entry-index l.entries) ≡ 0
