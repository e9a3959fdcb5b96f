use Rattle.std.proofs.Common.{◌∙◌, ap, sym, length}
use Rattle.xl_tile.proofs.Overlays.{length_under}
use Rattle.xl_tile.proofs.tile.TileRef.len.Goals as goal

pub returns-clause-value : goal.returns-clause-value
returns-clause-value c =
    c.len.ensures.value ∙ (sym (length_under c.self.inside.patch c.self.inside.stored c.self.invariant.0) ∙ ap length c.self.view_is)
