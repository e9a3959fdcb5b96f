-- The next id is one above the greatest.
use Rattle.std.proofs.Common.{◌+◌, arith, refl}
use Rattle.xl_calls.specs.Edits.{edit_of}
use Rattle.xl_trial.proofs.AfterEdit.{next_is, above, has_next}
use Rattle.xl_trial.proofs.accepted.damage.Goals as goal

pub overflow_add-next_id : goal.overflow_add-next_id
overflow_add-next_id c =
    let is = next_is _ c.args.before.now c.before-2.inside.tree c.greatest_id-next_id.result c.greatest_id-next_id.ensures refl
    c.before-2.view_is in
    let small = c.requires.next in
    omega (arith, is, small)

pub apply-requires-clause-next : goal.apply-requires-clause-next
apply-requires-clause-next c =
    has_next c.args.before.now c.in_ok-after.after (c.greatest_id-next_id.result + 1)
    (edit_of c.args.edit.now) c.in_ok-after.ensures
    (next_is _ c.args.before.now c.before-2.inside.tree c.greatest_id-next_id.result c.greatest_id-next_id.ensures refl
    c.before-2.view_is) c.requires.another

pub damage_between-requires-clause-above : goal.damage_between-requires-clause-above
damage_between-requires-clause-above c =
    above c.args.before.now (c.greatest_id-next_id.result + 1)
    (next_is _ c.args.before.now c.before-2.inside.tree c.greatest_id-next_id.result c.greatest_id-next_id.ensures refl
    c.before-2.view_is)
