use Rattle.std.proofs.Common.{◌≡◌, None, ap, ◌∙◌, sym, subst}
use Rattle.spec_history.specs.History.{replay}
use Rattle.spec_history.specs.Kept.{IsLegal}
use Rattle.xl_commands.specs.Outcome.{Given, given_of}
use Rattle.xl_history.specs.Editing.{Editing}
use Rattle.xl_serve.specs.Talking.{HasSaid}
use Rattle.xl_serving.proofs.Talks.{none_ends, some_same, talk_ends}
use Rattle.xl_serving.proofs.talking.talk.Goals as goal

pub returns-in-Ok : goal.returns-in-Ok
returns-in-Ok g c = λ before name there.
    let see = g.D.Shelf.shelf_state in
    let given : Given =
    given_of (g.S.Source.left c.args.source.now) (λ b. (goal.PointFilter-dyn g (b.vtable, b.value)).state b.value)
    c.args.chest.items in
    let first = c.args.core in
    let made = c.in-Ok.ensures in
    let talked = c.answer_all-end.ensures in
    let core = c.into_core.result in
    let same : core ≡ c.answer_all-end.new.server.core = c.into_core.ensures in
    talk_ends see g.K.Sink.held g.K.Sink.faults g.S.Source.faults given name before first.opening c.end_talk.result.shelf
    first.history.base core c.args.source.now c.answer_all-end.new.source c.args.sink.now c.answer_all-end.new.sink c.end_talk.new.sink
    c.answer_all-end.new.out.items c.answer_all-end.result c.end_talk.result.status there
    (record {
      base_is = ap (λ (e : Editing _). e.history.base) same ∙ talked.goes_on.base_is ∙ ap (λ (e : Editing _). e.history.base) made.core;
      opening_is = ap (λ (e : Editing _). e.opening) same ∙ talked.goes_on.opening_is ∙ ap (λ (e : Editing _). e.opening) made.core;
      legal = subst (λ (e : Editing _). IsLegal e.history.base e.history.entries) (sym same) talked.goes_on.ready.legal;
      ended = subst (λ (e : Editing _). (replay e.history.base e.history.entries).out ≡ None) (sym same) talked.goes_on.ready.ended;
      versions = c.end_talk.ensures.within;
      right = c.end_talk.ensures.right;
    })
    (subst
    (λ (e : Editing _). HasSaid g.K.Sink.held g.K.Sink.faults first.history.base given.chests given.left c.args.sink.now
    c.answer_all-end.new.sink c.answer_all-end.new.out.items e.history.entries c.answer_all-end.result)
    (sym same) (talked.said first.history.base given.chests made.stands c.requires.ready))
    talked.cause c.end_talk.ensures.written

pub answer_all-end-requires-clause-stands : goal.answer_all-end-requires-clause-stands
answer_all-end-requires-clause-stands g c κs within = (c.args.core.history.base, _, c.in-Ok.ensures.stands, c.requires.ready)

pub returns-in-Err : goal.returns-in-Err
returns-in-Err g c = λ before name there.
    let see = g.D.Shelf.shelf_state in
    let back : c.without_memory.result.shelf ≡ c.args.core.opening =
    c.without_memory.ensures.shelf
    ∙ some_same (sym c.into_shelf.ensures.shelf ∙ ap (λ (e : Editing _). e.shelf) c.in-Err.ensures.back ∙ c.requires.inside) in
    none_ends g.K.Sink.held g.K.Sink.faults g.S.Source.faults _ name before (see c.args.core.opening)
    (see c.without_memory.result.shelf) c.args.core.history.base c.args.source.now c.args.sink.now c.without_memory.result.status there
    (ap see back) c.without_memory.ensures.status
