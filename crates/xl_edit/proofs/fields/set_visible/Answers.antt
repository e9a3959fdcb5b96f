-- The node is there.
use Rattle.std.proofs.Common.{refl}
use Rattle.spec_edit.specs.Edit as edits
use Rattle.xl_edit.proofs.Accepted.{limits_after}
use Rattle.xl_edit.proofs.fields.set_visible.Goals as goal

pub set_field-requires-clause-limits : goal.set_field-requires-clause-limits
set_field-requires-clause-limits c =
    limits_after c.args.doc.now (edits.set_visible c.args.id.0 c.args.on) tt refl c.in_ok-check_node.ensures.there
