use Rattle.std.proofs.Common.{◌≡◌, refl, None, Some, ◌∙◌, subst}
use Rattle.std.specs.Prelude.{Option}
use Rattle.spec_command.specs.Arguments.{Argument}
use Rattle.xl_command.specs.Asking.{arguments_of, served_in}
use Rattle.xl_commands.specs.Outcome.{Given, given_of}
use Rattle.xl_commands.proofs.Taken.{untouched}
use Rattle.xl_serving.specs.Served.{Serves, ShelfGoes}
use Rattle.xl_serving.proofs.Histories.{shelf_as_before}
use Rattle.xl_serving.proofs.Statuses.{none_told, not_usage}
use Rattle.xl_serving.proofs.serving.serve.Goals as goal

-- ---- without memory for the words

pub returns-in_default-clause-serves : goal.returns-in_default-clause-serves
returns-in_default-clause-serves g c = λ not.
    let see = g.D.Shelf.shelf_state in
    none_told g.K.Sink.held g.K.Sink.faults g.S.Source.faults _ _ (see c.args.shelf) (see c.args.shelf) c.args.source.now
    c.args.source.now c.args.sink.now c.args.sink.now 8 refl (refl, refl) (record { untouched = untouched (see c.args.shelf); unread = refl })

pub returns-in_default-clause-shelf : goal.returns-in_default-clause-shelf
returns-in_default-clause-shelf g c = shelf_as_before _ (g.D.Shelf.shelf_state c.args.shelf) 8

-- ---- other words

pub returns-in_default-asked-clause-serves : goal.returns-in_default-asked-clause-serves
returns-in_default-asked-clause-serves g c = λ not. absurd (not refl)

pub returns-in_default-asked-clause-shelf : goal.returns-in_default-asked-clause-shelf
returns-in_default-asked-clause-shelf g c = shelf_as_before _ (g.D.Shelf.shelf_state c.args.shelf) 2

-- ---- the file of a name

pub returns-clause-usage : goal.returns-clause-usage
returns-clause-usage g c =
    let is : Some c.in-Some.name.now ≡ served_in (arguments_of c.args.words.now) = rw c.in-Some.is at c.in-Ok.ensures in (
      λ two. absurd (not_usage c.serve_file.result.status c.serve_file.ensures.serves.statuses two),
      λ both. let bad : Some c.in-Some.name.now ≡ None = is ∙ both.0 in cc,
    )

pub returns-clause-usage_written : goal.returns-clause-usage_written
returns-clause-usage_written g c = λ two. absurd (not_usage c.serve_file.result.status c.serve_file.ensures.serves.statuses two)

pub returns-clause-as_before : goal.returns-clause-as_before
returns-clause-as_before g c = λ two. absurd (not_usage c.serve_file.result.status c.serve_file.ensures.serves.statuses two)

pub returns-clause-serves : goal.returns-clause-serves
returns-clause-serves g c = λ not.
    let see = g.D.Shelf.shelf_state in
    let given : Given =
    given_of (g.S.Source.left c.args.source.now) (λ b. (goal.PointFilter-dyn g (b.vtable, b.value)).state b.value)
    c.args.chest.items in
    let is : Some c.in-Some.name.now ≡ served_in (arguments_of c.args.words.now) = rw c.in-Some.is at c.in-Ok.ensures in
    subst
    (λ (o : Option Argument). Serves g.K.Sink.held g.K.Sink.faults g.S.Source.faults given o (see c.args.shelf) (see c.serve_file.result.shelf)
    c.args.source.now c.serve_file.new.source c.args.sink.now c.serve_file.new.sink c.serve_file.result.status)
    is c.serve_file.ensures.serves

pub returns-clause-shelf : goal.returns-clause-shelf
returns-clause-shelf g c =
    let see = g.D.Shelf.shelf_state in
    let is : Some c.in-Some.name.now ≡ served_in (arguments_of c.args.words.now) = rw c.in-Some.is at c.in-Ok.ensures in
    subst (λ (o : Option Argument). ShelfGoes o (see c.args.shelf) (see c.serve_file.result.shelf) c.serve_file.result.status) is
    c.serve_file.ensures.shelf
