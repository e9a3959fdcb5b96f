use Rattle.std.proofs.Common.{◌≡◌, inl, inr, refl, false, true, Option, Some, sym, ◌∙◌, ap, subst, arith}
use Rattle.std.specs.Prelude.{ℕ, List, IfSome, None, Err, option_map}
use Rattle.std.proofs.lemmas.Option.{none-some}
use Rattle.spec_command.specs.Arguments.{Asked, edit, render, info, make, pack, flatten, view, audit, name_of}
use Rattle.spec_command.specs.Grammar.{asked_in}
use Rattle.spec_command.specs.Ends.{source_fault, refused, flat_refused, stop_line}
use Rattle.xl_command.specs.Asking.{asked_of, arguments_of}
use Rattle.xl_ports.specs.Shelf.{Content, selected_content}
use Rattle.xl_ports.specs.State.{ShelfState}
use Rattle.xl_ports.specs.Disk.{read_at}
use Rattle.xl_commands.specs.AtSource.{StopsBeforeShelf}
use Rattle.xl_commands.specs.Command.{IsFlatten, ReadsFile, ReadsSource}
use Rattle.xl_commands.specs.Files.{CannotBeFlat, HasFault}
use Rattle.xl_commands.specs.Lines.{WritesLine}
use Rattle.xl_commands.specs.Outcome.{Given, given_of, ComesTo, InGrammar, OtherNamesStay}
use Rattle.xl_commands.specs.Parts.{StopsFor}
use Rattle.xl_commands.specs.declared.Stopped.TheVariants.{Memory}
use Rattle.xl_commands.proofs.AtSource.{at_source}
use Rattle.xl_commands.proofs.Taken.{nothing_taken, nothing_saved}
use Rattle.xl_commands.proofs.OtherNames.{all_stay, names_stay}
use Rattle.xl_commands.proofs.ScriptEnded.{ended_written}
use Rattle.xl_commands.proofs.StopLines.{bad_source_written, flat_refusal_written, refusal_written, rejection_asked}
use Rattle.xl_commands.proofs.StopLines.{script_in_grammar, shelf_fault_asked, source_fault_written, source_refused}
use Rattle.xl_program.proofs.running.run.Goals as goal
use Rattle.xl_program.proofs.running.run.Goals.{in-Ok-result, in-Err}

pub returns-in_default-clause-source_taken : goal.returns-in_default-clause-source_taken
returns-in_default-clause-source_taken g c =
    nothing_taken g.S.Source.left g.S.Source.faults g.S.Source.reads c.args.source.now (asked_in (arguments_of c.args.words.now))

pub returns-in_default-clause-memory : goal.returns-in_default-clause-memory
returns-in_default-clause-memory g c = λ eight.
    let given : Given =
    given_of (g.S.Source.left c.args.source.now) (λ b. (goal.PointFilter-dyn g (b.vtable, b.value)).state b.value)
    c.args.chest.items in
    let kept : ShelfState =
    g.D.Shelf.shelf_state c.args.shelf in
    ((refl, refl), nothing_saved given kept (asked_in (arguments_of c.args.words.now)))

pub returns-clause-shelf_fault : goal.returns-clause-shelf_fault
returns-clause-shelf_fault g c = λ six. elim c.match-done.branch [
  | in-Ok-result w ↦ absurd (omega arith)
  | in-Err w ↦
      let content = read_at (g.D.Shelf.shelf_state c.args.shelf).disk in
      let before : ShelfState =
      g.D.Shelf.shelf_state
      c.args.shelf in
      let after : ShelfState =
      g.D.Shelf.shelf_state
      c.obey-done.result.shelf in
      shelf_fault_asked g.K.Sink.held g.K.Sink.faults _ content before after (asked_of c.in-Some.command) w.in-Err.stopped _ _ _ _
      (sym w.status-is ∙ six) (rw w.in-Err.is at c.obey-done.ensures.comes) (rw w.in-Err.is at c.obey-done.ensures.shelf_cause)
      w.write_stop-status.ensures (rw c.in-Some.is at c.in-Ok.ensures.asked) (sym w.sink-is)
]

pub returns-clause-source_fault_written : goal.returns-clause-source_fault_written
returns-clause-source_fault_written g c = λ five. elim c.match-done.branch [
  | in-Ok-result w ↦ absurd (omega arith)
  | in-Err w ↦
      let content = read_at (g.D.Shelf.shelf_state c.args.shelf).disk in
      let command = asked_of c.in-Some.command in
      let is : Some command ≡ asked_in (arguments_of c.args.words.now) = rw c.in-Some.is at c.in-Ok.ensures.asked in
      let told =
      source_fault_written g.K.Sink.held g.K.Sink.faults _ content _ _ command w.in-Err.stopped _ _ _ _ (sym w.status-is ∙ five)
      (rw w.in-Err.is at c.obey-done.ensures.comes) (rw w.in-Err.is at c.obey-done.ensures.stops)
      w.write_stop-status.ensures in (
        subst (λ (o : Option Asked). ReadsSource o) is told.0,
        subst (λ k. WritesLine g.K.Sink.held g.K.Sink.faults c.args.sink.now k (stop_line source_fault)) (sym w.sink-is) told.1,
      )
]

pub returns-clause-bad_source : goal.returns-clause-bad_source
returns-clause-bad_source g c = λ three. elim c.match-done.branch [
  | in-Ok-result w ↦ absurd (omega arith)
  | in-Err w ↦
      let given : Given =
      given_of (g.S.Source.left c.args.source.now) (λ b. (goal.PointFilter-dyn g (b.vtable, b.value)).state b.value)
      c.args.chest.items in
      let content = read_at (g.D.Shelf.shelf_state c.args.shelf).disk in
      let command = asked_of c.in-Some.command in
      let is : Some command ≡ asked_in (arguments_of c.args.words.now) = rw c.in-Some.is at c.in-Ok.ensures.asked in
      let told =
      bad_source_written g.K.Sink.held g.K.Sink.faults given content _ _ command w.in-Err.stopped _ _ _ _
      (sym w.status-is ∙ three) (rw w.in-Err.is at c.obey-done.ensures.comes) (rw w.in-Err.is at c.obey-done.ensures.stops)
      w.write_stop-status.ensures in
      source_refused g.K.Sink.held g.K.Sink.faults given (Some command) (asked_in (arguments_of c.args.words.now)) c.args.sink.now _ _
      is (sym w.sink-is) told
]

pub returns-clause-rejected : goal.returns-clause-rejected
returns-clause-rejected g c = λ ten. elim c.match-done.branch [
  | in-Ok-result w ↦ absurd (omega arith)
  | in-Err w ↦
      let content = read_at (g.D.Shelf.shelf_state c.args.shelf).disk in
      let before : ShelfState = g.D.Shelf.shelf_state c.args.shelf in
      let after : ShelfState = g.D.Shelf.shelf_state c.obey-done.result.shelf in
      rejection_asked g.K.Sink.held g.K.Sink.faults _ content before after (asked_of c.in-Some.command) w.in-Err.stopped _ _ _ _
      (sym w.status-is ∙ ten) (rw w.in-Err.is at c.obey-done.ensures.comes) w.write_stop-status.ensures
      (rw c.in-Some.is at c.in-Ok.ensures.asked) (sym w.sink-is)
]

pub returns-clause-flat_refused : goal.returns-clause-flat_refused
returns-clause-flat_refused g c = λ nine. elim c.match-done.branch [
  | in-Ok-result w ↦ absurd (omega arith)
  | in-Err w ↦
      let content = read_at (g.D.Shelf.shelf_state c.args.shelf).disk in
      let command = asked_of c.in-Some.command in
      let is : Some command ≡ asked_in (arguments_of c.args.words.now) = rw c.in-Some.is at c.in-Ok.ensures.asked in
      let told =
      flat_refusal_written g.K.Sink.held g.K.Sink.faults _ content _ _ command w.in-Err.stopped _ _ _ _ (sym w.status-is ∙ nine)
      (rw w.in-Err.is at c.obey-done.ensures.comes) (rw w.in-Err.is at c.obey-done.ensures.stops)
      w.write_stop-status.ensures in (
        told.0,
        subst (λ (o : Option Asked). IsFlatten o) is told.1,
        subst (λ (o : Option Content). IfSome o (λ x. CannotBeFlat x told.0))
            (ap (λ (o : Option Asked). selected_content (option_map name_of o) content) is) told.2,
        subst (λ k. WritesLine g.K.Sink.held g.K.Sink.faults c.args.sink.now k (stop_line (flat_refused told.0)))
            (sym w.sink-is) told.3,
      )
]

pub returns-clause-refused : goal.returns-clause-refused
returns-clause-refused g c = λ four. elim c.match-done.branch [
  | in-Ok-result w ↦ absurd (omega arith)
  | in-Err w ↦
      let content = read_at (g.D.Shelf.shelf_state c.args.shelf).disk in
      let command = asked_of c.in-Some.command in
      let is : Some command ≡ asked_in (arguments_of c.args.words.now) = rw c.in-Some.is at c.in-Ok.ensures.asked in
      let told =
      refusal_written g.K.Sink.held g.K.Sink.faults _ content _ _ command w.in-Err.stopped _ _ _ _ (sym w.status-is ∙ four)
      (rw w.in-Err.is at c.obey-done.ensures.comes) (rw w.in-Err.is at c.obey-done.ensures.stops)
      w.write_stop-status.ensures in (
        told.0,
        subst (λ (o : Option Asked). ReadsFile o) is told.1,
        subst (λ (o : Option Content). IfSome o (λ x. HasFault x told.0))
            (ap (λ (o : Option Asked). selected_content (option_map name_of o) content) is) told.2,
        subst (λ k. WritesLine g.K.Sink.held g.K.Sink.faults c.args.sink.now k (stop_line (refused told.0))) (sym w.sink-is) told.3,
      )
]

pub returns-clause-script_first : goal.returns-clause-script_first
returns-clause-script_first g c = λ which. elim c.match-done.branch [
  | in-Ok-result w ↦ elim which [
    | inl four ↦ absurd (omega arith)
    | inr six ↦ absurd (omega arith)
  ]
  | in-Err w ↦
      let given : Given =
      given_of (g.S.Source.left c.args.source.now) (λ b. (goal.PointFilter-dyn g (b.vtable, b.value)).state b.value)
      c.args.chest.items in
      let content = read_at (g.D.Shelf.shelf_state c.args.shelf).disk in
      let command = asked_of c.in-Some.command in
      let is : Some command ≡ asked_in (arguments_of c.args.words.now) = rw c.in-Some.is at c.in-Ok.ensures.asked in
      subst (λ (o : Option Asked). InGrammar given o) is
      (script_in_grammar given content g.K.Sink.held g.K.Sink.faults command w.in-Err.stopped _ _ _ _ (sym w.status-is) which
      (rw w.in-Err.is at c.obey-done.ensures.stops) w.write_stop-status.ensures)
]

pub returns-clause-source_ended : goal.returns-clause-source_ended
returns-clause-source_ended g c = λ after asked.
    let is : Some (asked_of c.in-Some.command) ≡ asked_in (arguments_of c.args.words.now) =
    rw c.in-Some.is at c.in-Ok.ensures.asked in
    let edits = subst (λ (o : Option Asked). ReadsSource o) (sym is) asked in
    elim c.match-done.branch [
      | in-Ok-result w ↦ (rw w.in-Ok-result.is at c.obey-done.ensures.ended) edits
      | in-Err w ↦
          ended_written g.K.Sink.held g.K.Sink.faults (g.S.Source.left c.obey-done.new.source) w.in-Err.stopped _ _ _ _
          (sym w.status-is) after w.write_stop-status.ensures
          ((rw w.in-Err.is at c.obey-done.ensures.ended) edits)
    ]

pub obey-done-requires-clause-range : goal.obey-done-requires-clause-range
obey-done-requires-clause-range g c κs within = rw c.in-Some.is at c.in-Ok.ensures.range

pub returns-in_default-clause-other_names : goal.returns-in_default-clause-other_names
returns-in_default-clause-other_names g c = all_stay (g.D.Shelf.shelf_state c.args.shelf) (asked_in (arguments_of c.args.words.now))

pub returns-clause-other_names : goal.returns-clause-other_names
returns-clause-other_names g c =
    let command = asked_of c.in-Some.command in
    let is : Some command ≡ asked_in (arguments_of c.args.words.now) = rw c.in-Some.is at c.in-Ok.ensures.asked in
    let before : ShelfState = g.D.Shelf.shelf_state c.args.shelf in
    let after : ShelfState = g.D.Shelf.shelf_state c.obey-done.result.shelf in
    subst (λ (o : Option Asked). OtherNamesStay before after o) is
    (names_stay g.K.Sink.held g.K.Sink.faults _ before after command _ _ c.obey-done.result.result c.obey-done.ensures.comes)

pub returns-in_default-asked-clause-other_names : goal.returns-in_default-asked-clause-other_names
returns-in_default-asked-clause-other_names g c = all_stay (g.D.Shelf.shelf_state c.args.shelf) (asked_in (arguments_of c.args.words.now))

pub returns-in_default-clause-few_loads : goal.returns-in_default-clause-few_loads
returns-in_default-clause-few_loads g c = omega arith

pub returns-in_default-asked-clause-few_loads : goal.returns-in_default-asked-clause-few_loads
returns-in_default-asked-clause-few_loads g c = omega arith

pub returns-in_default-clause-shelf_as_before : goal.returns-in_default-clause-shelf_as_before
returns-in_default-clause-shelf_as_before g c = λ before. refl

pub returns-in_default-asked-clause-shelf_as_before : goal.returns-in_default-asked-clause-shelf_as_before
returns-in_default-asked-clause-shelf_as_before g c = λ before. refl

pub returns-clause-shelf_as_before : goal.returns-clause-shelf_as_before
returns-clause-shelf_as_before g c = λ before. elim c.match-done.branch [
  | in-Ok-result w ↦ let bad : false ≡ true = subst StopsBeforeShelf w.status-is before in cc
  | in-Err w ↦
      let given : Given =
      given_of (g.S.Source.left c.args.source.now) (λ b. (goal.PointFilter-dyn g (b.vtable, b.value)).state b.value)
      c.args.chest.items in
      let content = read_at (g.D.Shelf.shelf_state c.args.shelf).disk in
      at_source given content g.K.Sink.held g.K.Sink.faults _ (asked_of c.in-Some.command) w.in-Err.stopped _ _ _ _ (sym w.status-is)
      before (rw w.in-Err.is at c.obey-done.ensures.stops) w.write_stop-status.ensures
      (rw w.in-Err.is at c.obey-done.ensures.shelf_as_before)
]

pub returns-in_default-clause-no_load : goal.returns-in_default-clause-no_load
returns-in_default-clause-no_load g c = λ none. refl

pub returns-in_default-asked-clause-no_load : goal.returns-in_default-asked-clause-no_load
returns-in_default-asked-clause-no_load g c = λ none. refl

pub returns-clause-no_load : goal.returns-clause-no_load
returns-clause-no_load g c = λ none.
    let is : Some (asked_of c.in-Some.command) ≡ asked_in (arguments_of c.args.words.now) =
    rw c.in-Some.is at c.in-Ok.ensures.asked in
    c.obey-done.ensures.no_load (λ reads. none (subst (λ (o : Option Asked). ReadsFile o) is reads))

-- each command may stop so
without_memory : (given : Given) (content : List ℕ → Option Content) (command : Asked) → StopsFor given content command (Err Memory)
without_memory given content (edit name workers) = tt
without_memory given content (render name) = tt
without_memory given content (info name with_all) = tt
without_memory given content (make name seed) = tt
without_memory given content (pack name with_plans) = tt
without_memory given content (flatten name) = tt
without_memory given content (view name cols rows) = tt
without_memory given content (audit name) = tt

pub returns-in_default-clause-cause : goal.returns-in_default-clause-cause
returns-in_default-clause-cause g c = λ command asked.
    let given : Given =
    given_of (g.S.Source.left c.args.source.now) (λ b. (goal.PointFilter-dyn g (b.vtable, b.value)).state b.value)
    c.args.chest.items in
    let kept : ShelfState = g.D.Shelf.shelf_state c.args.shelf in (
      without_memory given (read_at kept.disk) command,
      (c.args.sink.now, ((refl, refl), nothing_saved given kept (Some command)), (refl, refl)),
    )

pub returns-clause-cause : goal.returns-clause-cause
returns-clause-cause g c = λ command asked. elim c.match-done.branch [
  | in-Ok-result w ↦ rw c.err.ensures.value (rw w.in-Ok-result.is tt)
  | in-Err w ↦
      let given : Given =
      given_of (g.S.Source.left c.args.source.now) (λ b. (goal.PointFilter-dyn g (b.vtable, b.value)).state b.value)
      c.args.chest.items in
      let content = read_at (g.D.Shelf.shelf_state c.args.shelf).disk in
      let before : ShelfState = g.D.Shelf.shelf_state c.args.shelf in
      let after : ShelfState = g.D.Shelf.shelf_state c.obey-done.result.shelf in
      let same : Some (asked_of c.in-Some.command) ≡ Some command = rw c.in-Some.is at c.in-Ok.ensures.asked ∙ asked in
      rw c.err.ensures.value (rw w.in-Err.is (
        subst (λ (o : Option Asked). IfSome o (λ a. StopsFor given content a (Err w.in-Err.stopped))) same
            (rw w.in-Err.is at c.obey-done.ensures.stops),
        (
          c.obey-done.new.sink,
          subst (λ (o : Option Asked). IfSome o (λ a. ComesTo g.K.Sink.held g.K.Sink.faults given before after a c.args.sink.now
              c.obey-done.new.sink (Err w.in-Err.stopped))) same (rw w.in-Err.is at c.obey-done.ensures.comes),
          rw w.sink-is (rw w.status-is w.write_stop-status.ensures),
        ),
      ))
]

pub returns-clause-cause_without : goal.returns-clause-cause_without
returns-clause-cause_without g c = λ none.
    let same : Some (asked_of c.in-Some.command) ≡ None = rw c.in-Some.is at c.in-Ok.ensures.asked ∙ none in
    absurd (none-some _ (sym same))
