use Rattle.std.proofs.Common.{◌∙◌, arith, refl}
use Rattle.std.specs.Prelude.{Err}
use Rattle.xl_script.specs.Lines.{lists_of}
use Rattle.xl_commands.proofs.AtSource.{past_source}
use Rattle.xl_commands.proofs.Edited.{IsOpened, played_comes, read_stopped, load_stops, play_stops}
use Rattle.xl_commands.proofs.FirstSaves.{ok_any}
use Rattle.xl_commands.proofs.ScriptEnded.{ended_anyhow, unread}
use Rattle.xl_program.proofs.editing.edit.Goals as goal
use Rattle.xl_ports.specs.State.{ShelfState}
use Rattle.xl_ports.specs.Disk.{read_at}

pub returns-clause-comes : goal.returns-clause-comes
returns-clause-comes g c =
    let before : ShelfState =
    g.D.Shelf.shelf_state c.args.shelf in
    let mid : ShelfState =
    g.D.Shelf.shelf_state
    c.read_document.new.shelf in
    let after : ShelfState =
    g.D.Shelf.shelf_state
    c.run_script-played.result.shelf in
    let loaded = c.in-Ok-read_document.ensures in
    let then : IsOpened _ before mid c.args.name.now c.in-Ok-read_document.document (lists_of c.in-Ok.script) = record {
      holds = loaded.loads;
      within = loaded.limits;
      read = c.in-Ok.ensures.reads;
      untouched = loaded.untouched;
      named = loaded.named;
      reading = loaded.cause;
    } in
    played_comes then after c.args.workers g.K.Sink.held g.K.Sink.faults c.args.sink.now c.write_replies.new.sink
    c.run_script-played.result.replies c.write_replies.result
    c.run_script-played.ensures c.write_replies.ensures.writes

pub returns-in-Err-clause-comes : goal.returns-in-Err-clause-comes
returns-in-Err-clause-comes g c =
    let before : ShelfState =
    g.D.Shelf.shelf_state c.args.shelf in
    read_stopped g.K.Sink.held g.K.Sink.faults _ before c.args.name.now c.args.sink.now c.in-Err.stopped c.in-Err.ensures.reads
    c.args.workers

pub returns-in-Err-read_document-clause-stops : goal.returns-in-Err-read_document-clause-stops
returns-in-Err-read_document-clause-stops g c =
    load_stops _ (read_at (g.D.Shelf.shelf_state c.args.shelf).disk c.args.name.now) (lists_of c.in-Ok.script) c.in-Err-read_document.stopped
    c.in-Ok.ensures.reads c.in-Err-read_document.ensures.loads

pub returns-clause-stops : goal.returns-clause-stops
returns-clause-stops g c =
    play_stops g.K.Sink.held g.K.Sink.faults c.args.sink.now c.write_replies.new.sink _
    (read_at (g.D.Shelf.shelf_state c.args.shelf).disk c.args.name.now) (lists_of c.in-Ok.script)
    c.run_script-played.result.replies c.write_replies.result c.in-Ok.ensures.reads c.write_replies.ensures.writes

pub returns-in-Err-clause-ended : goal.returns-in-Err-clause-ended
returns-in-Err-clause-ended g c = unread _ (g.S.Source.left c.read_script.new.source) c.in-Err.stopped c.in-Err.ensures.reads

pub returns-in-Err-read_document-clause-ended : goal.returns-in-Err-read_document-clause-ended
returns-in-Err-read_document-clause-ended g c =
    ended_anyhow (g.S.Source.left c.read_script.new.source) (Err c.in-Err-read_document.stopped) c.in-Ok.ensures.ended

pub returns-clause-ended : goal.returns-clause-ended
returns-clause-ended g c = ended_anyhow (g.S.Source.left c.read_script.new.source) c.write_replies.result c.in-Ok.ensures.ended

pub returns-clause-named : goal.returns-clause-named
returns-clause-named g c =
    ok_any c.write_replies.result (c.run_script-played.ensures.shelf.selected ∙ c.in-Ok-read_document.ensures.named)

pub returns-clause-few_loads : goal.returns-clause-few_loads
returns-clause-few_loads g c =
    omega (arith, c.in-Ok-read_document.ensures.few_loads, c.run_script-played.ensures.shelf.loads)

pub returns-in-Err-clause-few_loads : goal.returns-in-Err-clause-few_loads
returns-in-Err-clause-few_loads g c = omega arith

pub returns-in-Err-clause-shelf_as_before : goal.returns-in-Err-clause-shelf_as_before
returns-in-Err-clause-shelf_as_before g c = λ stops. refl

pub returns-in-Err-read_document-clause-shelf_as_before : goal.returns-in-Err-read_document-clause-shelf_as_before
returns-in-Err-read_document-clause-shelf_as_before g c = λ stops. absurd (c.in-Err-read_document.ensures.past_source stops)

pub returns-clause-shelf_as_before : goal.returns-clause-shelf_as_before
returns-clause-shelf_as_before g c = past_source _ c.write_replies.result c.write_replies.ensures.past_source
