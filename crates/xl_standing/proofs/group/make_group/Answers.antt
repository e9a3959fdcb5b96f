-- A group without filters has no tables; one that was accepted is made with those that were answered.
use Rattle.std.proofs.Common.{rules, ◌≡◌, [], length, sym, ◌∙◌, ap, subst}
use Rattle.std.proofs.lemmas.Result.{IfOk-weaker, IfErr-weaker, err_from_is_err_and}
use Rattle.spec_tables.specs.Acceptance.{filter_count}
use Rattle.spec_tables.specs.Agrees.{AreAsked}
use Rattle.spec_tables.proofs.Asked.{no_filters-asked}
use Rattle.xl_edit.specs.Applied.{at}
use Rattle.xl_calls.specs.Edits.{edits_of}
use Rattle.spec_standing.proofs.Allowed.{allowed_where, no_tables, part_allowed}
use Rattle.xl_standing.proofs.Making.{leaves}
use Rattle.xl_standing.proofs.group.make_group.Goals as goal

pub returns-then-is_empty-clause-asked : goal.returns-then-is_empty-clause-asked
returns-then-is_empty-clause-asked g c =
    let edits = edits_of c.args.edits.now in
    let empty : length c.as_slice.result.now ≡ 0 = search rules in
    let none : length c.in_ok-blank.blank ≡ 0 = ap length (sym c.as_slice.ensures) ∙ empty in
    let plain : filter_count edits ≡ 0 = sym c.in_ok-blank.ensures ∙ none in
    IfOk-weaker c.try_group.result _ _
    (λ made same. subst (AreAsked _ _ edits) (sym (same ∙ no_tables c.in_ok-blank.blank none)) (no_filters-asked _ edits plain))
    c.try_group.ensures.tables

-- where memory runs out among the filters it is known that no edit is refused
pub returns-in_err-tables-clause-chest : goal.returns-in_err-tables-clause-chest
returns-in_err-tables-clause-chest g c =
    let edits = edits_of c.args.edits.now in
    let p = err_from_is_err_and c.from_residual-in_err-tables.result c.from_residual-in_err-tables.ensures.1 in
    rw (p.1, p.2)
    (part_allowed _ _ _ edits (allowed_where (at c.args.document.now c.args.next_id) edits (c.in_ok-check_group.ensures.allowed []))
    c.in_err-tables.ensures.part)

pub returns-clause-chest : goal.returns-clause-chest
returns-clause-chest g c =
    let old = at c.args.document.now c.args.next_id in
    let edits = edits_of c.args.edits.now in
    let tables = c.in_ok-tables.tables in
    IfErr-weaker c.try_group-2.result _ _
    (λ e refusal. leaves _ _ old edits tables e c.in_ok-check_group.ensures.allowed c.in_ok-tables.ensures.asked refusal)
    c.try_group-2.ensures.refused
