-- There is an id left.
use Rattle.std.proofs.Common.{arith}
use Rattle.xl_doc.proofs.NextId.{next_small}
use Rattle.core_rows.proofs.changes.damage_of.Goals as goal

pub damage-requires-clause-next : goal.damage-requires-clause-next
damage-requires-clause-next c = let small = next_small c.args.doc.now c.requires.numbered in omega (arith, small)

pub damage-requires-clause-another : goal.damage-requires-clause-another
damage-requires-clause-another c = λ makes. next_small c.args.doc.now c.requires.numbered
