use Rattle.std.proofs.Common.{sym, subst, refl, arith, ◌^◌, ◌-◌, ◌∙◌}
use Rattle.std.specs.Prelude.{IsSome}
use Rattle.xl_serve.proofs.Submitting.{stays_on}
use Rattle.xl_serve.proofs.Faulty.{end_cause}
use Rattle.xl_serve.proofs.Talks.{goes_then, way_begin, way_full}
use Rattle.xl_serve.proofs.talking.answer_all.Goals as goal

pub loop-number-init : goal.loop-number-init
loop-number-init g c = (
  stays_on c.args.server.now.core c.requires.ready,
  λ base filters stands told.
      way_begin g.K.Sink.held g.K.Sink.faults base filters (g.S.Source.left c.args.source.now) c.args.sink.now c.new-lines.result
      c.args.out.now.items _ c.new-lines.ensures stands told,
  omega arith,
  refl,
)

pub take_turn-requires-clause-selected : goal.take_turn-requires-clause-selected
take_turn-requires-clause-selected g c κs within =
    subst (λ opening. IsSome (g.D.Shelf.shelf_state opening).selected) (sym c.loop-number.invariant.0.opening_is) c.requires.selected

pub take_turn-requires-clause-stands : goal.take_turn-requires-clause-stands
take_turn-requires-clause-stands g c κs within =
    let some = c.requires.stands in
    let way = c.loop-number.invariant.1 some.0 some.1 some.2 some.3 in
    (some.0, some.1, way.lines, way.turns, way.stands)

pub loop-number-preserved : goal.loop-number-preserved
loop-number-preserved g c = (
  goes_then _ _ _ c.loop-number.invariant.0 c.take_turn.ensures.goes_on,
  λ base filters stands told.
      c.in-Ok.ensures.turned base filters _ _ (c.loop-number.invariant.1 base filters stands told),
  omega (arith, c.loop-number-test.true),
  c.in-Ok.ensures.cause ∙ c.loop-number.invariant.3,
)

pub returns-in-Err-clause-said : goal.returns-in-Err-clause-said
returns-in-Err-clause-said g c = λ base filters stands told.
    c.in-Err.ensures.turned base filters _ _ (c.loop-number.invariant.1 base filters stands told)

pub returns-clause-said : goal.returns-clause-said
returns-clause-said g c = λ base filters stands told.
    way_full g.K.Sink.held g.K.Sink.faults base filters (g.S.Source.left c.args.source.now) c.args.sink.now _ _ _ _ _
    (c.loop-number.invariant.1 base filters stands told) c.loop-number.server.core.history.entries (2 ^ 32 - 1)
    c.loop-number.invariant.0.ready.legal refl (omega (arith, c.loop-number-test.false, c.loop-number.invariant.2)) (omega arith)

pub returns-in-Err-clause-cause : goal.returns-in-Err-clause-cause
returns-in-Err-clause-cause g c = end_cause _ _ _ c.in-Err.end c.loop-number.invariant.3 c.in-Err.ensures.cause

pub returns-clause-cause : goal.returns-clause-cause
returns-clause-cause g c = c.loop-number.invariant.3
