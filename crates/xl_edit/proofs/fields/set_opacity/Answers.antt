-- An opacity is a byte.
use Rattle.std.proofs.Common.{refl, arith}
use Rattle.spec_edit.specs.Edit as edits
use Rattle.xl_edit.proofs.Accepted.{limits_after}
use Rattle.xl_edit.proofs.fields.set_opacity.Goals as goal

pub set_field-requires-clause-limits : goal.set_field-requires-clause-limits
set_field-requires-clause-limits c =
    limits_after c.args.doc.now (edits.set_opacity c.args.id.0 c.args.value) (omega arith) refl c.in_ok-check_node.ensures.there
