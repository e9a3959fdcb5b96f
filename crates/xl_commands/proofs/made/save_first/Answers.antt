use Rattle.std.proofs.Common.{inl, inr, ◌∙◌, refl}
use Rattle.std.proofs.lemmas.Result.{on_ok_weaker, on_err_weaker}
use Rattle.spec_generated.specs.Generated.{document}
use Rattle.xl_outcome.specs.Outcome.{opened}
use Rattle.xl_outcome.proofs.FirstSaves.{saved_first, failed_first, ok_any, err_any}
use Rattle.xl_commands.proofs.made.save_first.Goals as goal
use Rattle.xl_ports.specs.State.{ShelfState}

pub returns-in_err-select-clause-failed : goal.returns-in_err-select-clause-failed
returns-in_err-select-clause-failed g c =
    let e = c.in_err-select.ensures in
    err_any c.from_residual.result
    (λ seed wrote. (inl (record { contents = e.contents; quiet = e.quiet; saving = e.saving }), inl e.cause))

pub returns-clause-saved : goal.returns-clause-saved
returns-clause-saved g c =
    let see = g.D.Shelf.shelf_state in
    let old : ShelfState =
    opened (see c.args.shelf.now) (see c.save_file.new.shelf) c.args.name.now in
    let e = c.in_ok-select.ensures in
    on_ok_weaker c.save_file.result
    (λ saves seed wrote.
    saved_first (document seed) old (see c.select.new.self) (see c.save_file.new.shelf) e.selected refl e.quiet e.cause e.saving
    (saves (document seed) wrote)) c.save_file.ensures.saved

pub returns-clause-failed : goal.returns-clause-failed
returns-clause-failed g c =
    let see = g.D.Shelf.shelf_state in
    let old : ShelfState =
    opened (see c.args.shelf.now) (see c.save_file.new.shelf) c.args.name.now in
    let e = c.in_ok-select.ensures in
    on_err_weaker c.save_file.result
    (λ saves seed wrote.
    let fails =
    failed_first (document seed) old (see c.select.new.self) (see c.save_file.new.shelf) e.selected refl e.quiet e.cause e.saving
    (saves (document seed) wrote) in
    (inr fails, inr fails.saving))
    c.save_file.ensures.failed

pub returns-clause-selected : goal.returns-clause-selected
returns-clause-selected g c = inr (c.save_file.ensures.selected ∙ c.in_ok-select.ensures.selected)

pub returns-clause-named : goal.returns-clause-named
returns-clause-named g c = ok_any c.save_file.result (c.save_file.ensures.selected ∙ c.in_ok-select.ensures.selected)
