use Rattle.std.proofs.Common.{length}
use Rattle.xl_desk.proofs.AskedSoFar.{IsCounted}
use Rattle.xl_desk.proofs.asking.blank_tables.Given as goal

-- one for each filter so far
abbrev pub invariant-loop-edit : goal.invariant-loop-edit
invariant-loop-edit l = IsCounted l.edits l.edit-index (length l.tables)
