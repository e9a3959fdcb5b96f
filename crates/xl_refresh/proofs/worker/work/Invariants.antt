use Rattle.std.proofs.Common.{◌≡◌, None}
use mathlib.Core.List.{IsPrefix}
use Rattle.xl_history.specs.Tally.{with_more}
use Rattle.xl_refresh.proofs.worker.work.Given as goal

-- the seat stays the desk's, no job is out, its history grows, and the sums so far are the answers that it had
abbrev pub invariant-loop : goal.invariant-loop
invariant-loop g l =
    (goal.iterator-loop g).can_next l.iterator'
    × (goal.iterator-loop g).is_finite l.iterator'
    × g.J.JobDesk.is_of l.desk l.seat
    × (g.J.JobDesk.out l.seat ≡ None)
    × (g.J.JobDesk.weight l.seat ≡ g.J.JobDesk.weight l.initial.seat)
    × (g.J.JobDesk.places l.seat ≡ g.J.JobDesk.places l.initial.seat)
    × IsPrefix (g.J.JobDesk.entries l.initial.seat) (g.J.JobDesk.entries l.seat)
    × (g.J.JobDesk.tally l.seat ≡ with_more (g.J.JobDesk.tally l.initial.seat) l.tally.installed l.tally.late)
