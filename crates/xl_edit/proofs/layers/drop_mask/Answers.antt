-- The layer has a mask.
use Rattle.std.proofs.Common.{refl}
use Rattle.spec_edit.specs.Edit as edits
use Rattle.xl_edit.proofs.Accepted.{limits_after}
use Rattle.xl_edit.proofs.layers.drop_mask.Goals as goal

pub change_layer-requires-clause-limits : goal.change_layer-requires-clause-limits
change_layer-requires-clause-limits c =
    limits_after c.args.doc.now (edits.drop_mask c.args.id.0) tt refl c.in_ok-masked_at.ensures.allowed
