use Rattle.xl_props.proofs.Front.{Front}
use Rattle.xl_props.proofs.read.read_props.Given as goal

abbrev pub invariant-loop-count : goal.invariant-loop-count
invariant-loop-count l = Front l.bytes l.owner l.at l._count l.props
