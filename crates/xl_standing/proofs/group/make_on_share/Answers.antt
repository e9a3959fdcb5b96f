-- The canvas stays; and where the change cannot be made all filters were asked.
use Rattle.std.proofs.Common.{◌≡◌, sym, ◌∙◌, ap}
use Rattle.std.specs.Prelude.{Ok}
use Rattle.std.proofs.lemmas.Result.{err_from_is_err_and}
use Rattle.spec_standing.specs.Change.{change_between}
use Rattle.xl_edit.specs.Applied.{at}
use Rattle.xl_calls.specs.Edits.{edits_of}
use Rattle.spec_standing.proofs.Allowed.{allowed_made, all_part, part_allowed}
use Rattle.xl_standing.proofs.Sides.{sides_same}
use Rattle.xl_standing.proofs.group.make_on_share.Goals as goal

pub new-requires-clause-width : goal.new-requires-clause-width
new-requires-clause-width g c =
    let made = c.in_ok-made.made in
    (sides_same (at c.args.document.now c.args.next_id.now) (at made.document made.next_id) (edits_of c.args.edits.now)
    made.tables c.in_ok-made.ensures.made).width

pub new-requires-clause-height : goal.new-requires-clause-height
new-requires-clause-height g c =
    let made = c.in_ok-made.made in
    (sides_same (at c.args.document.now c.args.next_id.now) (at made.document made.next_id) (edits_of c.args.edits.now)
    made.tables c.in_ok-made.ensures.made).height

pub returns-in_err-change-clause-chest : goal.returns-in_err-change-clause-chest
returns-in_err-change-clause-chest g c =
    let made = c.in_ok-made.made in
    let old = at c.args.document.now c.args.next_id.now in
    let edits = edits_of c.args.edits.now in
    let p = err_from_is_err_and c.from_residual-in_err-change.result c.from_residual-in_err-change.ensures.1 in
    rw (p.1, p.2)
    (part_allowed _ _ _ edits (allowed_made old (at made.document made.next_id) edits made.tables c.in_ok-made.ensures.made)
    (all_part _ _ edits made.tables c.in_ok-made.ensures.asked))

pub returns-clause-made : goal.returns-clause-made
returns-clause-made g c =
    let made = c.in_ok-made.made in
    let after = c.replace-before.ensures.after in
    record {
      applied = c.in_ok-made.ensures.made ∙ ap (λ d. Ok (at d made.next_id)) (sym after);
      back = c.new-lead.ensures
          ∙ (λ i. record { from = c.replace-before.new.dest; to = c.replace-before.ensures.value i });
      marks = c.in_ok-change.ensures
          ∙ (λ i. change_between c.args.document.now (sym after i) (c.in_ok-made.ensures.damage i));
    }
