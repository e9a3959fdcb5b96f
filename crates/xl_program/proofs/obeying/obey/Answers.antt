use Rattle.std.proofs.Common.{arith}
use Rattle.spec_command.specs.Arguments.{render, info, edit, view, audit}
use Rattle.xl_commands.specs.Outcome.{Given, given_of}
use Rattle.xl_commands.proofs.Causes.{cause_of}
use Rattle.xl_program.proofs.obeying.obey.Goals as goal

pub returns-in-Render-clause-comes : goal.returns-in-Render-clause-comes
returns-in-Render-clause-comes g c =
    let given : Given =
    given_of (g.S.Source.left c.args.source.now) (λ b. (goal.PointFilter-dyn g (b.vtable, b.value)).state b.value)
    c.args.chest.items in
    rw c.in-Render.is (c.render-result.ensures.comes given)

pub returns-in-Info-clause-comes : goal.returns-in-Info-clause-comes
returns-in-Info-clause-comes g c =
    let given : Given =
    given_of (g.S.Source.left c.args.source.now) (λ b. (goal.PointFilter-dyn g (b.vtable, b.value)).state b.value)
    c.args.chest.items in
    rw c.in-Info.is (c.describe-result.ensures.comes given)

pub returns-in-Edit-clause-comes : goal.returns-in-Edit-clause-comes
returns-in-Edit-clause-comes g c = rw c.in-Edit.is c.edit.ensures.comes

pub returns-in-Make-clause-comes : goal.returns-in-Make-clause-comes
returns-in-Make-clause-comes g c =
    let given : Given =
    given_of (g.S.Source.left c.args.source.now) (λ b. (goal.PointFilter-dyn g (b.vtable, b.value)).state b.value)
    c.args.chest.items in
    rw c.in-Make.is (c.make.ensures.comes given)

pub returns-in-Render-clause-shelf_cause : goal.returns-in-Render-clause-shelf_cause
returns-in-Render-clause-shelf_cause g c =
    let see = g.D.Shelf.shelf_state in
    rw c.in-Render.is (cause_of (see c.args.shelf) (see c.render-result.new.shelf) (render c.in-Render.name.now)
    c.render-result.result (λ rose. rose) c.render-result.ensures.cause)

pub returns-in-Info-clause-shelf_cause : goal.returns-in-Info-clause-shelf_cause
returns-in-Info-clause-shelf_cause g c =
    let see = g.D.Shelf.shelf_state in
    rw c.in-Info.is (cause_of (see c.args.shelf) (see c.describe-result.new.shelf) (info c.in-Info.name.now c.in-Info.with_all)
    c.describe-result.result (λ rose. rose) c.describe-result.ensures.cause)

pub returns-in-Edit-clause-shelf_cause : goal.returns-in-Edit-clause-shelf_cause
returns-in-Edit-clause-shelf_cause g c =
    let see = g.D.Shelf.shelf_state in
    rw c.in-Edit.is (cause_of (see c.args.shelf) (see c.edit.result.shelf) (edit c.in-Edit.name.now c.in-Edit.workers)
    c.edit.result.result (λ rose. rose) c.edit.ensures.shelf_cause)

pub edit-requires-clause-workers : goal.edit-requires-clause-workers
edit-requires-clause-workers g c κs within = rw c.in-Edit.is at c.requires.range

pub returns-in-Pack-clause-comes : goal.returns-in-Pack-clause-comes
returns-in-Pack-clause-comes g c =
    let given : Given =
    given_of (g.S.Source.left c.args.source.now) (λ b. (goal.PointFilter-dyn g (b.vtable, b.value)).state b.value)
    c.args.chest.items in
    rw c.in-Pack.is (c.pack-result.ensures.comes given)

pub returns-in-Flatten-clause-comes : goal.returns-in-Flatten-clause-comes
returns-in-Flatten-clause-comes g c =
    let given : Given =
    given_of (g.S.Source.left c.args.source.now) (λ b. (goal.PointFilter-dyn g (b.vtable, b.value)).state b.value)
    c.args.chest.items in
    rw c.in-Flatten.is (c.flatten-result.ensures.comes given)

pub returns-in-View-clause-comes : goal.returns-in-View-clause-comes
returns-in-View-clause-comes g c = rw c.in-View.is c.view.ensures.comes

pub returns-in-View-clause-shelf_cause : goal.returns-in-View-clause-shelf_cause
returns-in-View-clause-shelf_cause g c =
    let see = g.D.Shelf.shelf_state in
    rw c.in-View.is (cause_of (see c.args.shelf) (see c.view.result.shelf) (view c.in-View.name.now c.in-View.cols c.in-View.rows)
    c.view.result.result (λ rose. rose) c.view.ensures.shelf_cause)

pub view-requires-clause-size : goal.view-requires-clause-size
view-requires-clause-size g c κs within =
    let range = rw c.in-View.is at c.requires.range in
    record {
      some_cols = omega (arith, range.some_cols, range.some_rows);
      few_cols = omega (arith, range.few_cols, range.few_rows);
      some_rows = omega (arith, range.some_cols, range.some_rows);
      few_rows = omega (arith, range.few_cols, range.few_rows);
    }

pub returns-in-Audit-clause-comes : goal.returns-in-Audit-clause-comes
returns-in-Audit-clause-comes g c = rw c.in-Audit.is c.audit-result.ensures.comes

pub returns-in-Audit-clause-shelf_cause : goal.returns-in-Audit-clause-shelf_cause
returns-in-Audit-clause-shelf_cause g c =
    let see = g.D.Shelf.shelf_state in
    rw c.in-Audit.is (cause_of (see c.args.shelf) (see c.audit-result.new.shelf) (audit c.in-Audit.name.now)
    c.audit-result.result (λ rose. rose) c.audit-result.ensures.shelf_cause)

pub returns-in-Edit-clause-shelf_as_before : goal.returns-in-Edit-clause-shelf_as_before
returns-in-Edit-clause-shelf_as_before g c = λ reads. c.edit.ensures.shelf_as_before

pub returns-in-View-clause-shelf_as_before : goal.returns-in-View-clause-shelf_as_before
returns-in-View-clause-shelf_as_before g c = λ reads. c.view.ensures.shelf_as_before

pub returns-in-Audit-clause-shelf_as_before : goal.returns-in-Audit-clause-shelf_as_before
returns-in-Audit-clause-shelf_as_before g c = λ reads. c.audit-result.ensures.shelf_as_before

pub returns-in-Make-clause-few_loads : goal.returns-in-Make-clause-few_loads
returns-in-Make-clause-few_loads g c = omega (arith, c.make.ensures.no_load)

pub returns-in-Render-clause-no_load : goal.returns-in-Render-clause-no_load
returns-in-Render-clause-no_load g c = λ none. absurd (none (rw c.in-Render.is tt))

pub returns-in-Info-clause-no_load : goal.returns-in-Info-clause-no_load
returns-in-Info-clause-no_load g c = λ none. absurd (none (rw c.in-Info.is tt))

pub returns-in-Edit-clause-no_load : goal.returns-in-Edit-clause-no_load
returns-in-Edit-clause-no_load g c = λ none. absurd (none (rw c.in-Edit.is tt))

pub returns-in-Pack-clause-no_load : goal.returns-in-Pack-clause-no_load
returns-in-Pack-clause-no_load g c = λ none. absurd (none (rw c.in-Pack.is tt))

pub returns-in-Flatten-clause-no_load : goal.returns-in-Flatten-clause-no_load
returns-in-Flatten-clause-no_load g c = λ none. absurd (none (rw c.in-Flatten.is tt))

pub returns-in-View-clause-no_load : goal.returns-in-View-clause-no_load
returns-in-View-clause-no_load g c = λ none. absurd (none (rw c.in-View.is tt))

pub returns-in-Audit-clause-no_load : goal.returns-in-Audit-clause-no_load
returns-in-Audit-clause-no_load g c = λ none. absurd (none (rw c.in-Audit.is tt))
