use Rattle.xl_standing.proofs.Groups.{IsUnderWay}
use Rattle.xl_standing.proofs.group.apply_group.Given as goal
use Rattle.xl_edit.specs.Applied.{at}

abbrev pub invariant-loop-index : goal.invariant-loop-index
invariant-loop-index l =
    IsUnderWay (at l.fn.document l.fn.next_id) (at l.document l.next_id) l.edits l.tables l.index l.taken l.damage
