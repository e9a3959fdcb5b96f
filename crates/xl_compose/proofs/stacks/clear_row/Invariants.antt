use Rattle.std.proofs.Common.{◌≡◌, ℕ, ◌<◌, get_or}
use Rattle.spec_document.specs.Over.{clear}
use Rattle.xl_compose.proofs.stacks.clear_row.Given as goal

abbrev pub invariant-loop-k : goal.invariant-loop-k
invariant-loop-k l = (k : ℕ) → k < l.k → get_or l.row k clear ≡ clear
