use Rattle.std.proofs.Common.{◌∙◌, arith}
use Rattle.xl_outcome.specs.Flattening.{made_flat}
use Rattle.xl_outcome.proofs.FirstSaves.{ok_any}
use Rattle.xl_outcome.proofs.FlatSaves.{IsFlatRead, flat_comes, flat_cause, flat_stops}
use Rattle.xl_commands.proofs.flattening.flatten.Goals as goal
use Rattle.xl_ports.specs.Disk.{read_at}

pub returns-clause-comes : goal.returns-clause-comes
returns-clause-comes g c = λ given.
    let see = g.D.Shelf.shelf_state in
    let read = c.in_ok-document.ensures in
    let d = c.in_ok-document.document in
    let then : IsFlatRead (see c.args.shelf.now) (see c.read_document.new.shelf) c.args.name.now d = record {
      holds = read.loads;
      within = read.limits;
      untouched = read.untouched;
      named = read.named;
      reading = read.cause;
      allowed = c.in_ok-file.ensures.allowed;
      becomes = c.in_ok-file.ensures.becomes;
    } in
    flat_comes then (see c.save_flat.new.shelf) g.K.Sink.held g.K.Sink.faults given c.args.sink.now c.save_flat.new.sink
    c.save_flat.result (c.save_flat.ensures.saved (made_flat d) c.in_ok-file.ensures.written)

pub returns-clause-stops : goal.returns-clause-stops
returns-clause-stops g c =
    let see = g.D.Shelf.shelf_state in
    let d = c.in_ok-document.document in
    flat_stops g.K.Sink.held g.K.Sink.faults (made_flat d) (see c.read_document.new.shelf) (see c.save_flat.new.shelf)
    c.args.sink.now c.save_flat.new.sink (read_at (see c.args.shelf.now).disk c.args.name.now) c.save_flat.result
    (c.save_flat.ensures.saved (made_flat d) c.in_ok-file.ensures.written)

pub returns-clause-cause : goal.returns-clause-cause
returns-clause-cause g c =
    let see = g.D.Shelf.shelf_state in
    let read = c.in_ok-document.ensures in
    let d = c.in_ok-document.document in
    let then : IsFlatRead (see c.args.shelf.now) (see c.read_document.new.shelf) c.args.name.now d = record {
      holds = read.loads;
      within = read.limits;
      untouched = read.untouched;
      named = read.named;
      reading = read.cause;
      allowed = c.in_ok-file.ensures.allowed;
      becomes = c.in_ok-file.ensures.becomes;
    } in
    flat_cause then (see c.save_flat.new.shelf) g.K.Sink.held g.K.Sink.faults c.args.sink.now c.save_flat.new.sink
    c.save_flat.result (c.save_flat.ensures.saved (made_flat d) c.in_ok-file.ensures.written)

pub returns-clause-named : goal.returns-clause-named
returns-clause-named g c = ok_any c.save_flat.result (c.save_flat.ensures.selected ∙ c.in_ok-document.ensures.named)

pub returns-clause-few_loads : goal.returns-clause-few_loads
returns-clause-few_loads g c = omega (arith, c.in_ok-document.ensures.few_loads, c.save_flat.ensures.loads)
