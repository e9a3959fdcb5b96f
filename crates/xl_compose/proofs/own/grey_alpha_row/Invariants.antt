use Rattle.std.proofs.Common.{◌≡◌, ℕ, ◌<◌, List, get_or}
use Rattle.spec_document.specs.Over.{clear}
use Rattle.xl_compose.specs.Own.{pixel_at}
use Rattle.xl_compose.proofs.own.grey_alpha_row.Given as goal

-- the pixels so far are made
abbrev pub invariant-loop-k : goal.invariant-loop-k
invariant-loop-k l = (colours : List (List ℕ)) (k : ℕ) → k < l.k → get_or l.row k clear ≡ pixel_at 3 colours l.bytes k
