use Rattle.xl_serve.proofs.Talks.{moves_none}
use Rattle.xl_serve.proofs.talking.make_way.Goals as goal

pub returns-then-not-is_due-clause-moved : goal.returns-then-not-is_due-clause-moved
returns-then-not-is_due-clause-moved g c = moves_none g.K.Sink.held g.K.Sink.faults c.args.sink.now c.args.out.now.items
