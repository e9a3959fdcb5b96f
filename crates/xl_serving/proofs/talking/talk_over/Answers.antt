use Rattle.std.proofs.Common.{ap, ◌∙◌, sym, subst}
use Rattle.std.specs.Prelude.{Some, []}
use Rattle.spec_document.specs.Document.{Document}
use Rattle.spec_serve.specs.Said.{told_text}
use Rattle.xl_ports.specs.State.{ShelfState}
use Rattle.xl_serving.specs.Opened.{IsOpened}
use Rattle.xl_serving.proofs.Talks.{none_ends}
use Rattle.xl_serving.proofs.talking.talk_over.Goals as goal

pub talk-requires-clause-ready : goal.talk-requires-clause-ready
talk-requires-clause-ready g c κs within =
    c.in-Ok.ensures ∙ ap (λ (d : Document). told_text d []) (sym c.in-Ok-open_core.ensures.base)

pub talk-requires-clause-inside : goal.talk-requires-clause-inside
talk-requires-clause-inside g c κs within = c.in-Ok-open_core.ensures.shelf ∙ ap Some (sym c.in-Ok-open_core.ensures.opening)

pub returns-in-Ok-open_core : goal.returns-in-Ok-open_core
returns-in-Ok-open_core g c = λ before name there.
    let see = g.D.Shelf.shelf_state in
    let made = c.in-Ok-open_core.ensures in
    c.talk.ensures before name
    (subst (λ (s : ShelfState). IsOpened name before s c.in-Ok-open_core.core.history.base) (sym (ap see made.opening))
    (subst (IsOpened name before (see c.args.shelf)) (sym made.base) there))

pub returns-in_default : goal.returns-in_default
returns-in_default g c = λ before name there.
    let see = g.D.Shelf.shelf_state in
    none_ends g.K.Sink.held g.K.Sink.faults g.S.Source.faults _ name before (see c.args.shelf) (see c.without_memory.result.shelf)
    c.args.document c.args.source.now c.args.sink.now c.without_memory.result.status there (ap see c.without_memory.ensures.shelf)
    c.without_memory.ensures.status

pub returns-in-Err : goal.returns-in-Err
returns-in-Err g c = λ before name there.
    let see = g.D.Shelf.shelf_state in
    none_ends g.K.Sink.held g.K.Sink.faults g.S.Source.faults _ name before (see c.args.shelf) (see c.without_memory-in-Err.result.shelf)
    c.args.document c.args.source.now c.args.sink.now c.without_memory-in-Err.result.status there
    (ap see (c.without_memory-in-Err.ensures.shelf ∙ c.in-Err.ensures.back)) c.without_memory-in-Err.ensures.status
