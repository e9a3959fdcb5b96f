-- A group of one edit that paints is that edit.
use Rattle.std.proofs.Common.{[], cond, sym, subst}
use Rattle.std.proofs.lemmas.Result.{err_from_is_err_and}
use Rattle.std.specs.List.{AllByRecursion}
use Rattle.spec_document.specs.Limits.{AreBytes}
use Rattle.spec_tables.specs.Agrees.{AreAsked}
use Rattle.spec_standing.specs.Group.{is_allowed}
use Rattle.spec_standing.proofs.Allowed.{none_part}
use Rattle.xl_calls.specs.Edits.{edits_of}
use Rattle.xl_edit.specs.Applied.{at}
use Rattle.xl_standing.specs.Made.{IsMadeOf}
use Rattle.xl_standing.proofs.Alone.{one_is_edit, one_has_next, one_asks_none, stops_alone}
use Rattle.xl_standing.proofs.group.make.Goals as goal

pub paint-requires-clause-edit : goal.paint-requires-clause-edit
paint-requires-clause-edit g c = one_is_edit c.args.edits.now c.in-Some.edit.now c.in-Some.ensures c.requires.each

pub paint-requires-clause-next : goal.paint-requires-clause-next
paint-requires-clause-next g c =
    one_has_next c.args.document.now c.args.next_id.now c.args.edits.now c.in-Some.edit.now c.in-Some.ensures c.requires.ids

pub returns-in_ok-paint-in-Ok-clause-made : goal.returns-in_ok-paint-in-Ok-clause-made
returns-in_ok-paint-in-Ok-clause-made g c =
    let made = c.in_ok-paint-in-Ok.field-0 in
    subst (λ es. IsMadeOf (at c.args.document.now c.args.next_id.now) (at c.paint.new.document c.args.next_id.now) (edits_of es)
    made) (sym c.in-Some.ensures) c.in_ok-paint-in-Ok.ensures.made

pub returns-in_ok-paint-in-Ok-clause-bytes : goal.returns-in_ok-paint-in-Ok-clause-bytes
returns-in_ok-paint-in-Ok-clause-bytes g c = subst (AllByRecursion AreBytes) (sym c.in_ok-paint-in-Ok.ensures.tables) tt

pub returns-in_ok-paint-in-Ok-clause-asked : goal.returns-in_ok-paint-in-Ok-clause-asked
returns-in_ok-paint-in-Ok-clause-asked g c =
    let may = c.in-Ok.ensures.may in
    subst (AreAsked _ _ (edits_of c.args.edits.now)) (sym c.in_ok-paint-in-Ok.ensures.tables)
    (one_asks_none _ c.args.edits.now c.in-Some.edit.now c.in-Some.ensures may.plain)

pub returns-in_err-paint-in-Ok-clause-chest : goal.returns-in_err-paint-in-Ok-clause-chest
returns-in_err-paint-in-Ok-clause-chest g c =
    let old = at c.args.document.now c.args.next_id.now in
    let edits = edits_of c.args.edits.now in
    let p = err_from_is_err_and c.from_residual.result c.from_residual.ensures.1 in
    rw (p.1, p.2) (none_part _ (cond (is_allowed old edits) edits []))

pub returns-in-Err-Refused-clause-refused : goal.returns-in-Err-Refused-clause-refused
returns-in-Err-Refused-clause-refused g c =
    rw c.in-Err-Refused.field-0-is
    (stops_alone (at c.args.document.now c.args.next_id.now) c.args.edits.now c.in-Some.edit.now c.in-Err-Refused.cause c.in-Some.ensures
    (rw c.in-Err-Refused.field-0-is at c.in-Err-Refused.ensures.why))
