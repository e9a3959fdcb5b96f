use Rattle.std.proofs.Common.{refl, sym, subst}
use Rattle.xl_serve.specs.Talking.{HasSaid}
use Rattle.xl_serve.proofs.Submitting.{stays_on}
use Rattle.xl_serve.proofs.Faulty.{sink_cause}
use Rattle.xl_serve.proofs.Talks.{way_moved, way_fault}
use Rattle.xl_serve.proofs.talking.take_turn.Goals as goal

pub returns-in-Ok-clause-turned : goal.returns-in-Ok-clause-turned
returns-in-Ok-clause-turned g c = λ base filters left begun way.
    c.take_line.ensures.turned base filters left begun
    (way_moved g.K.Sink.held g.K.Sink.faults base filters left begun _ _ _ _ _ way c.make_way.new.sink c.make_way.new.out.items
    c.in-Ok.ensures.moved)

pub returns-in-Err-clause-goes_on : goal.returns-in-Err-clause-goes_on
returns-in-Err-clause-goes_on g c = stays_on c.args.server.now.core c.requires.ready

pub returns-in-Err-clause-turned : goal.returns-in-Err-clause-turned
returns-in-Err-clause-turned g c = λ base filters left begun way.
    subst
    (HasSaid g.K.Sink.held g.K.Sink.faults base filters left begun c.make_way.new.sink c.make_way.new.out.items
    c.args.server.now.core.history.entries)
    (sym c.in-Err.ensures.end)
    (way_fault g.K.Sink.held g.K.Sink.faults base filters left begun _ _ _ _ _ way c.make_way.new.sink
    c.args.server.now.core.history.entries c.requires.ready.legal refl c.in-Err.ensures.moved c.make_way.new.out.items)

pub returns-in-Err-clause-cause : goal.returns-in-Err-clause-cause
returns-in-Err-clause-cause g c = sink_cause _ c.in-Err.end c.in-Err.ensures.end
