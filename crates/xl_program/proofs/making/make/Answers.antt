use Rattle.std.proofs.Common.{refl, inl, inr, sym, ◌∙◌, subst}
use Rattle.std.specs.Prelude.{Option, List, [], ℕ, IsSome}
use Rattle.spec_document.specs.Document.{Document}
use Rattle.spec_generated.specs.Generated.{document, script}
use Rattle.spec_script.specs.Fits.{FitsFilters}
use Rattle.spec_script.specs.Script.{Line}
use Rattle.xl_doc.specs.Numbered.{AreNumbered}
use Rattle.xl_commands.specs.Outcome.{opened}
use Rattle.xl_commands.proofs.FirstSaves.{ok_any, ok_at, err_at}
use Rattle.xl_commands.proofs.MadeRuns.{seed_is_made, made_comes, made_stops, made_cause, saved_as_now}
use Rattle.spec_merged.proofs.MadeScripts.{script_fits}
use Rattle.xl_commands.proofs.Taken.{untouched}
use Rattle.xl_commands.proofs.MadeNumbered.{made_is_numbered}
use Rattle.xl_program.proofs.making.make.Goals as goal
use Rattle.xl_ports.specs.State.{ShelfState}

pub run_made-played-requires-clause-selected : goal.run_made-played-requires-clause-selected
run_made-played-requires-clause-selected g c κs within =
    subst (λ (o : Option (List ℕ)). IsSome o)
    (sym (ok_at c.save_first.result (sym c.is_err.ensures.value ∙ c.if-is_err.false) c.save_first.ensures.named)) refl

pub run_made-played-requires-clause-numbered : goal.run_made-played-requires-clause-numbered
run_made-played-requires-clause-numbered g c κs within =
    subst (λ (d : Document). AreNumbered d.nodes) (sym c.in-Ok.ensures.document) (made_is_numbered c.args.seed)

pub run_made-played-requires-clause-fits : goal.run_made-played-requires-clause-fits
run_made-played-requires-clause-fits g c κs within =
    subst (λ (lists : List (List Line)). FitsFilters [] lists) (sym c.in-Ok.ensures.script) (script_fits c.args.seed)

pub returns-in_default-clause-comes : goal.returns-in_default-clause-comes
returns-in_default-clause-comes g c = λ given. (
  (refl, refl),
  inl (untouched
      (g.D.Shelf.shelf_state
      c.args.shelf)),
)

pub returns-then-is_err-clause-comes : goal.returns-then-is_err-clause-comes
returns-then-is_err-clause-comes g c = λ given. (
  (refl, refl),
  (err_at c.save_first.result (sym c.is_err.ensures.value ∙ c.if-is_err.true) c.save_first.ensures.failed
      c.args.seed c.in-Ok.ensures.file).0,
)

pub returns-then-is_err-clause-cause : goal.returns-then-is_err-clause-cause
returns-then-is_err-clause-cause g c =
    (err_at c.save_first.result (sym c.is_err.ensures.value ∙ c.if-is_err.true) c.save_first.ensures.failed c.args.seed
    c.in-Ok.ensures.file).1

pub returns-clause-comes : goal.returns-clause-comes
returns-clause-comes g c = λ given.
    let see = g.D.Shelf.shelf_state in
    let first : ShelfState = see c.save_first.new.shelf in
    let now : ShelfState = see c.run_made-played.result.shelf in
    let old : ShelfState = opened (see c.args.shelf) now c.args.name.now in
    let run = c.run_made-played.ensures c.args.seed c.in-Ok.ensures.document c.in-Ok.ensures.script in
    let saved =
    saved_as_now (see c.args.shelf) first now c.args.name.now (document c.args.seed) run.shelf.loads
    (ok_at c.save_first.result (sym c.is_err.ensures.value ∙ c.if-is_err.false) c.save_first.ensures.saved c.args.seed
    c.in-Ok.ensures.file) in
    made_comes (document c.args.seed) (script c.args.seed) (seed_is_made c.args.seed) old first now saved g.K.Sink.held
    g.K.Sink.faults _ _ _ c.args.sink.now c.write_replies.new.sink
    c.run_made-played.result.replies c.write_replies.result
    (λ entries history front. inr (record { entries = entries; history = history; front = front }))
    run
    c.write_replies.ensures.writes

pub returns-clause-stops : goal.returns-clause-stops
returns-clause-stops g c =
    made_stops g.K.Sink.held g.K.Sink.faults c.args.sink.now c.write_replies.new.sink c.run_made-played.result.replies
    c.write_replies.result c.write_replies.ensures.writes

pub returns-clause-cause : goal.returns-clause-cause
returns-clause-cause g c =
    let see = g.D.Shelf.shelf_state in
    let saved =
    ok_at c.save_first.result (sym c.is_err.ensures.value ∙ c.if-is_err.false) c.save_first.ensures.saved c.args.seed
    c.in-Ok.ensures.file in
    made_cause g.K.Sink.held g.K.Sink.faults c.args.sink.now c.write_replies.new.sink (see c.args.shelf)
    (see c.run_made-played.result.shelf) c.args.name.now c.args.seed
    c.run_made-played.result.replies c.write_replies.result
    ((c.run_made-played.ensures c.args.seed c.in-Ok.ensures.document c.in-Ok.ensures.script).shelf.reading ∙ saved.reading)
    c.write_replies.ensures.writes

pub returns-clause-selected : goal.returns-clause-selected
returns-clause-selected g c =
    inr ((c.run_made-played.ensures c.args.seed c.in-Ok.ensures.document c.in-Ok.ensures.script).shelf.selected
    ∙ ok_at c.save_first.result (sym c.is_err.ensures.value ∙ c.if-is_err.false) c.save_first.ensures.named)

pub returns-clause-named : goal.returns-clause-named
returns-clause-named g c =
    ok_any c.write_replies.result
    ((c.run_made-played.ensures c.args.seed c.in-Ok.ensures.document c.in-Ok.ensures.script).shelf.selected
    ∙ ok_at c.save_first.result (sym c.is_err.ensures.value ∙ c.if-is_err.false) c.save_first.ensures.named)

pub returns-clause-no_load : goal.returns-clause-no_load
returns-clause-no_load g c =
    (c.run_made-played.ensures c.args.seed c.in-Ok.ensures.document c.in-Ok.ensures.script).shelf.loads ∙ c.save_first.ensures.loads
