use Rattle.xl_script.specs.Lines.{lists_of}
use Rattle.xl_sessions.specs.Players.{in_slots}
use Rattle.xl_sessions.proofs.Brought.{ArePartsUpTo}
use Rattle.xl_sessions.proofs.seating.parts_of.Given as goal

abbrev pub invariant-loop-lines : goal.invariant-loop-lines
invariant-loop-lines g l =
    ArePartsUpTo (λ b. (goal.PointFilter-dyn g (b.vtable, b.value)).state b.value)
    (in_slots (λ b. (goal.PointFilter-dyn g b).state b.1)) (lists_of l.fn.script) l.fn.chest.items
    l.lines-iterator.rest.items l.chest.items l.session l.parts.items
