use Rattle.std.proofs.Common.{ap, subst, sym, ◌∙◌, arith, refl}
use Rattle.std.specs.Prelude.{Err}
use Rattle.xl_outcome.specs.Outcome.{Given, given_of, LoadsFew}
use Rattle.xl_outcome.proofs.AtSource.{past_source}
use Rattle.xl_outcome.proofs.FirstSaves.{ok_any}
use Rattle.xl_outcome.proofs.ScriptEnded.{ended_anyhow}
use Rattle.xl_outcome.proofs.Viewed.{IsViewOpened, viewed_comes, view_stopped, script_stops, file_stops, text_stops, unread_view}
use Rattle.xl_commands.proofs.viewing.view.Goals as goal
use Rattle.xl_ports.specs.State.{ShelfState}
use Rattle.xl_ports.specs.Disk.{read_at}

pub returns-clause-comes : goal.returns-clause-comes
returns-clause-comes g c =
    let given : Given =
    given_of (g.S.Source.left c.args.source.now) (λ b. (goal.PointFilter-dyn g (b.vtable, b.value)).state b.value)
    c.args.chest.items in
    let see =
    g.D.Shelf.shelf_state in
    let loaded = c.in-Ok-read_document.ensures in
    let then : IsViewOpened given (see c.args.shelf) (see c.read_document.new.shelf) c.args.name.now c.in-Ok-read_document.document
    c.in-Ok.script = record {
      holds = loaded.loads;
      within = loaded.limits;
      read = c.in-Ok.ensures.reads;
      untouched = loaded.untouched;
    } in
    viewed_comes given then (see c.view_document-viewed.result.shelf) (ap see c.view_document-viewed.ensures.shelf) c.args.view.now.cols c.args.view.now.rows
    g.K.Sink.held g.K.Sink.faults c.args.sink.now c.write_text.new.sink c.view_document-viewed.result.text c.write_text.result
    c.view_document-viewed.ensures.views c.write_text.ensures.writes

pub returns-in-Err-clause-comes : goal.returns-in-Err-clause-comes
returns-in-Err-clause-comes g c =
    let given : Given =
    given_of (g.S.Source.left c.args.source.now) (λ b. (goal.PointFilter-dyn g (b.vtable, b.value)).state b.value)
    c.args.chest.items in
    let before : ShelfState =
    g.D.Shelf.shelf_state c.args.shelf in
    view_stopped g.K.Sink.held g.K.Sink.faults given before c.args.name.now c.args.view.now.cols c.args.view.now.rows c.args.sink.now c.in-Err.stopped
    c.in-Err.ensures.reads

pub returns-in-Err-clause-stops : goal.returns-in-Err-clause-stops
returns-in-Err-clause-stops g c =
    let given : Given =
    given_of (g.S.Source.left c.args.source.now) (λ b. (goal.PointFilter-dyn g (b.vtable, b.value)).state b.value)
    c.args.chest.items in
    script_stops given (read_at (g.D.Shelf.shelf_state c.args.shelf).disk c.args.name.now) c.in-Err.stopped c.in-Err.ensures.reads

pub returns-in-Err-read_document-clause-stops : goal.returns-in-Err-read_document-clause-stops
returns-in-Err-read_document-clause-stops g c =
    let given : Given =
    given_of (g.S.Source.left c.args.source.now) (λ b. (goal.PointFilter-dyn g (b.vtable, b.value)).state b.value)
    c.args.chest.items in
    file_stops given (read_at (g.D.Shelf.shelf_state c.args.shelf).disk c.args.name.now) c.in-Ok.script
    c.in-Err-read_document.stopped c.in-Ok.ensures.reads c.in-Err-read_document.ensures.loads

pub returns-clause-stops : goal.returns-clause-stops
returns-clause-stops g c =
    let given : Given =
    given_of (g.S.Source.left c.args.source.now) (λ b. (goal.PointFilter-dyn g (b.vtable, b.value)).state b.value)
    c.args.chest.items in
    text_stops g.K.Sink.held g.K.Sink.faults c.args.sink.now c.write_text.new.sink given
    (read_at (g.D.Shelf.shelf_state c.args.shelf).disk c.args.name.now) c.in-Ok.script c.view_document-viewed.result.text c.write_text.result c.in-Ok.ensures.reads
    c.write_text.ensures.writes

pub returns-in-Err-clause-ended : goal.returns-in-Err-clause-ended
returns-in-Err-clause-ended g c =
    let given : Given =
    given_of (g.S.Source.left c.args.source.now) (λ b. (goal.PointFilter-dyn g (b.vtable, b.value)).state b.value)
    c.args.chest.items in
    unread_view given (g.S.Source.left c.read_viewed.new.source) c.in-Err.stopped c.in-Err.ensures.reads

pub returns-in-Err-read_document-clause-ended : goal.returns-in-Err-read_document-clause-ended
returns-in-Err-read_document-clause-ended g c =
    ended_anyhow (g.S.Source.left c.read_viewed.new.source) (Err c.in-Err-read_document.stopped) c.in-Ok.ensures.ended

pub returns-clause-ended : goal.returns-clause-ended
returns-clause-ended g c = ended_anyhow (g.S.Source.left c.read_viewed.new.source) c.write_text.result c.in-Ok.ensures.ended

pub returns-clause-named : goal.returns-clause-named
returns-clause-named g c =
    let see = g.D.Shelf.shelf_state in
    ok_any c.write_text.result
    (ap (λ (k : _). (see k).selected) c.view_document-viewed.ensures.shelf ∙ c.in-Ok-read_document.ensures.named)

pub returns-clause-few_loads : goal.returns-clause-few_loads
returns-clause-few_loads g c =
    let see = g.D.Shelf.shelf_state in
    subst (λ (k : _). LoadsFew (see c.args.shelf) (see k)) (sym c.view_document-viewed.ensures.shelf)
    c.in-Ok-read_document.ensures.few_loads

pub returns-in-Err-clause-few_loads : goal.returns-in-Err-clause-few_loads
returns-in-Err-clause-few_loads g c = omega arith

pub returns-in-Err-clause-shelf_as_before : goal.returns-in-Err-clause-shelf_as_before
returns-in-Err-clause-shelf_as_before g c = λ stops. refl

pub returns-in-Err-read_document-clause-shelf_as_before : goal.returns-in-Err-read_document-clause-shelf_as_before
returns-in-Err-read_document-clause-shelf_as_before g c = λ stops. absurd (c.in-Err-read_document.ensures.past_source stops)

pub returns-clause-shelf_as_before : goal.returns-clause-shelf_as_before
returns-clause-shelf_as_before g c = past_source _ c.write_text.result c.write_text.ensures.past_source
