use Rattle.std.proofs.Common.{refl}
use Rattle.std.specs.Prelude.{Some}
use Rattle.xl_ports.specs.State.{ShelfState}
use Rattle.xl_serving.specs.Opened.{IsOpened}
use Rattle.xl_serving.proofs.Histories.{reading_told, shelf_untouched}
use Rattle.xl_serving.proofs.Statuses.{unread_told}
use Rattle.xl_serving.proofs.serving.serve_file.Goals as goal

pub returns-in-Ok-clause-serves : goal.returns-in-Ok-clause-serves
returns-in-Ok-clause-serves g c =
    let see = g.D.Shelf.shelf_state in
    let read = c.in-Ok.ensures in
    let there : IsOpened c.args.name.now (see c.args.shelf) (see c.read_document.new.shelf) c.in-Ok.document = record {
      held = read.loads;
      within = read.limits;
      untouched = read.untouched;
      named = read.named;
      reading = read.cause;
      few = read.few_loads;
    } in
    (c.talk_over.ensures (see c.args.shelf) c.args.name.now there).0

pub returns-in-Ok-clause-shelf : goal.returns-in-Ok-clause-shelf
returns-in-Ok-clause-shelf g c =
    let see = g.D.Shelf.shelf_state in
    let read = c.in-Ok.ensures in
    let there : IsOpened c.args.name.now (see c.args.shelf) (see c.read_document.new.shelf) c.in-Ok.document = record {
      held = read.loads;
      within = read.limits;
      untouched = read.untouched;
      named = read.named;
      reading = read.cause;
      few = read.few_loads;
    } in
    (c.talk_over.ensures (see c.args.shelf) c.args.name.now there).1

pub returns-in-Err-clause-serves : goal.returns-in-Err-clause-serves
returns-in-Err-clause-serves g c =
    let see = g.D.Shelf.shelf_state in
    let read = c.in-Err.ensures in
    unread_told g.K.Sink.held g.K.Sink.faults g.S.Source.faults _ (Some c.args.name.now) (see c.args.shelf)
    (see c.read_document.new.shelf) c.args.source.now c.args.source.now c.args.sink.now c.write_stop.new.sink c.in-Err.stopped
    c.write_stop.result read.loads read.cause c.write_stop.ensures (record { untouched = read.untouched; unread = refl })

pub returns-in-Err-clause-shelf : goal.returns-in-Err-clause-shelf
returns-in-Err-clause-shelf g c =
    let see = g.D.Shelf.shelf_state in
    let read = c.in-Err.ensures in
    let before : ShelfState = see c.args.shelf in
    let after : ShelfState = see c.read_document.new.shelf in
    shelf_untouched c.args.name.now before after c.write_stop.result read.untouched read.few_loads read.selected
    (reading_told g.K.Sink.held g.K.Sink.faults c.args.sink.now c.write_stop.new.sink before.reading after.reading c.in-Err.stopped
    c.write_stop.result read.cause c.write_stop.ensures)
