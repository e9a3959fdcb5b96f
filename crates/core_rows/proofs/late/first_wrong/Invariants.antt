use Rattle.xl_studio.specs.Seats.{IsSeatOf}
use Rattle.core_rows.proofs.late.first_wrong.Given as goal

-- the seat stays the studio's
abbrev pub invariant-loop-row : goal.invariant-loop-row
invariant-loop-row g l = IsSeatOf l.studio l.seat
