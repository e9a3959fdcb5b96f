use Rattle.std.proofs.Common.{arith, refl}
use Rattle.std.specs.Prelude.{Err}
use Rattle.xl_ports.specs.Disk.{read_at}
use Rattle.xl_ports.specs.State.{ShelfState}
use Rattle.xl_outcome.specs.Outcome.{Given, given_of}
use Rattle.xl_outcome.proofs.AtSource.{past_source}
use Rattle.xl_outcome.proofs.Audited.{IsAuditOpened, audit_comes, audit_stopped, source_stops, audit_file_stops, verdict_stops}
use Rattle.xl_outcome.proofs.Audited.{unread_source}
use Rattle.xl_outcome.proofs.FirstSaves.{ok_any}
use Rattle.xl_outcome.proofs.ScriptEnded.{ended_anyhow}
use Rattle.xl_commands.proofs.auditing.audit.Goals as goal

pub returns-clause-comes : goal.returns-clause-comes
returns-clause-comes g c =
    let given : Given =
    given_of (g.S.Source.left c.args.source.now) (λ b. (goal.PointFilter-dyn g (b.vtable, b.value)).state b.value)
    c.args.chest.items in
    let see = g.D.Shelf.shelf_state in
    let loaded = c.in-Ok-read_document.ensures in
    let then : IsAuditOpened given (see c.args.shelf.now) (see c.read_document.new.shelf) c.args.name.now c.in-Ok-read_document.document
    c.in-Ok.given = record {
      holds = loaded.loads;
      within = loaded.limits;
      read = c.in-Ok.ensures.reads;
      untouched = loaded.untouched;
    } in
    audit_comes given then g.K.Sink.held g.K.Sink.faults c.args.sink.now c.write_verdict.new.sink c.find_verdict.result
    c.write_verdict.result c.find_verdict.ensures c.write_verdict.ensures.writes

pub returns-in-Err-clause-comes : goal.returns-in-Err-clause-comes
returns-in-Err-clause-comes g c =
    let given : Given =
    given_of (g.S.Source.left c.args.source.now) (λ b. (goal.PointFilter-dyn g (b.vtable, b.value)).state b.value)
    c.args.chest.items in
    let before : ShelfState = g.D.Shelf.shelf_state c.args.shelf.now in
    audit_stopped g.K.Sink.held g.K.Sink.faults given before c.args.name.now c.args.sink.now c.in-Err.stopped
    c.in-Err.ensures.reads

pub returns-in-Err-clause-stops : goal.returns-in-Err-clause-stops
returns-in-Err-clause-stops g c =
    let given : Given =
    given_of (g.S.Source.left c.args.source.now) (λ b. (goal.PointFilter-dyn g (b.vtable, b.value)).state b.value)
    c.args.chest.items in
    source_stops given (read_at (g.D.Shelf.shelf_state c.args.shelf.now).disk c.args.name.now) c.in-Err.stopped c.in-Err.ensures.reads

pub returns-in-Err-read_document-clause-stops : goal.returns-in-Err-read_document-clause-stops
returns-in-Err-read_document-clause-stops g c =
    let given : Given =
    given_of (g.S.Source.left c.args.source.now) (λ b. (goal.PointFilter-dyn g (b.vtable, b.value)).state b.value)
    c.args.chest.items in
    audit_file_stops given (read_at (g.D.Shelf.shelf_state c.args.shelf.now).disk c.args.name.now) c.in-Ok.given c.in-Err-read_document.stopped
    c.in-Ok.ensures.reads c.in-Err-read_document.ensures.loads

pub returns-clause-stops : goal.returns-clause-stops
returns-clause-stops g c =
    let given : Given =
    given_of (g.S.Source.left c.args.source.now) (λ b. (goal.PointFilter-dyn g (b.vtable, b.value)).state b.value)
    c.args.chest.items in
    verdict_stops g.K.Sink.held g.K.Sink.faults c.args.sink.now c.write_verdict.new.sink given
    (read_at (g.D.Shelf.shelf_state c.args.shelf.now).disk c.args.name.now) c.find_verdict.result c.write_verdict.result c.write_verdict.ensures.writes

pub returns-in-Err-clause-ended : goal.returns-in-Err-clause-ended
returns-in-Err-clause-ended g c =
    let given : Given =
    given_of (g.S.Source.left c.args.source.now) (λ b. (goal.PointFilter-dyn g (b.vtable, b.value)).state b.value)
    c.args.chest.items in
    unread_source given (g.S.Source.left c.read_source.new.source) c.in-Err.stopped c.in-Err.ensures.reads

pub returns-in-Err-read_document-clause-ended : goal.returns-in-Err-read_document-clause-ended
returns-in-Err-read_document-clause-ended g c =
    ended_anyhow (g.S.Source.left c.read_source.new.source) (Err c.in-Err-read_document.stopped) c.in-Ok.ensures.ended

pub returns-clause-ended : goal.returns-clause-ended
returns-clause-ended g c =
    ended_anyhow (g.S.Source.left c.read_source.new.source) c.write_verdict.result c.in-Ok.ensures.ended

pub returns-clause-named : goal.returns-clause-named
returns-clause-named g c = ok_any c.write_verdict.result c.in-Ok-read_document.ensures.named

pub returns-in-Err-clause-few_loads : goal.returns-in-Err-clause-few_loads
returns-in-Err-clause-few_loads g c = omega arith

pub returns-in-Err-clause-shelf_as_before : goal.returns-in-Err-clause-shelf_as_before
returns-in-Err-clause-shelf_as_before g c = λ stops. refl

pub returns-in-Err-read_document-clause-shelf_as_before : goal.returns-in-Err-read_document-clause-shelf_as_before
returns-in-Err-read_document-clause-shelf_as_before g c = λ stops. absurd (c.in-Err-read_document.ensures.past_source stops)

pub returns-clause-shelf_as_before : goal.returns-clause-shelf_as_before
returns-clause-shelf_as_before g c = past_source _ c.write_verdict.result c.write_verdict.ensures.past_source
