use Rattle.xl_filters.specs.Chests.{states_in}
use Rattle.xl_desk.proofs.AskedSoFar.{IsAsking}
use Rattle.xl_desk.proofs.asking.ask_filters.Given as goal

-- the filters of the edits so far were asked
abbrev pub invariant-loop-edit : goal.invariant-loop-edit
invariant-loop-edit g l =
    IsAsking (states_in (λ b. (goal.PointFilter-dyn g b).state b.1) l.fn.chest)
    (states_in (λ b. (goal.PointFilter-dyn g b).state b.1) l.chest) l.edits l.edit-index l.tables
