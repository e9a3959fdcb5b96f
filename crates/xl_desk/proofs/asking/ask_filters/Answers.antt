-- One filter more is asked, or none.
use Rattle.std.proofs.Common.{rules, ◌≡◌, ◌<◌, None, length, sym, ◌∙◌}
use Rattle.spec_edit.specs.Edit.{slot_of}
use Rattle.xl_calls.specs.Edits.{edit_of}
use Rattle.xl_desk.proofs.AskedSoFar.{slot_there, asks_filter, asks_none, asked_part}
use Rattle.spec_standing.proofs.Allowed.{on_err}
use Rattle.xl_desk.proofs.asking.ask_filters.Goals as goal
use Rattle.xl_desk.proofs.asking.ask_filters.Goals.{in-Some+in_ok-push, in_default}

pub table-table-requires : goal.table-table-requires
table-table-requires g c =
    let inside : c.loop-edit.edit-index < length c.args.edits.now = search rules in
    slot_there _ _ c.args.edits.now c.loop-edit.edit-index c.loop-edit.tables c.edit-item.result c.in-Some.slot
    c.loop-edit.invariant inside c.edit-item.is
    (sym c.slot_of.ensures ∙ c.in-Some.is)

pub returns-in_err-push-clause-part : goal.returns-in_err-push-clause-part
returns-in_err-push-clause-part g c =
    let inside : c.loop-edit.edit-index < length c.args.edits.now = search rules in
    on_err _ c.from_residual.result
    (asked_part _ _ _ c.args.edits.now c.loop-edit.edit-index c.loop-edit.tables c.edit-item.result c.in-Some.slot
    c.loop-edit.invariant inside c.edit-item.is
    (sym c.slot_of.ensures ∙ c.in-Some.is) c.table-table.ensures.after)

pub loop-edit-preserved : goal.loop-edit-preserved
loop-edit-preserved g c =
    let inside : c.loop-edit.edit-index < length c.args.edits.now = search rules in
    elim c.match-slot_of.branch [
      | in-Some+in_ok-push w ↦
          rw (w.chest-is, w.tables-is, w.in_ok-push.ensures.ok)
          (asks_filter _ _ _ c.args.edits.now c.loop-edit.edit-index c.loop-edit.tables c.edit-item.result w.in-Some.slot
          w.table-table.result c.loop-edit.invariant inside
          c.edit-item.is (sym c.slot_of.ensures
          ∙ w.in-Some.is) w.table-table.ensures.table w.table-table.ensures.after w.know_table.ensures)
      | in_default w ↦
          let none : slot_of (edit_of c.edit-item.result) ≡ None = search rules in
          rw (w.chest-is, w.tables-is)
          (asks_none _ _ c.args.edits.now c.loop-edit.edit-index c.loop-edit.tables c.edit-item.result c.loop-edit.invariant inside
          c.edit-item.is none)
    ]
