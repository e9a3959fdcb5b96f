use Rattle.std.proofs.Common.{◌∙◌, ap, sym, length}
use Rattle.xl_tile.proofs.Overlays.{length_under}
use Rattle.xl_tile.proofs.tile.TileRef.read.Goals as goal

pub read-requires-clause-out : goal.read-requires-clause-out
read-requires-clause-out c =
    c.requires.out
    ∙ (ap length (sym c.self.view_is) ∙ length_under c.self.inside.patch c.self.inside.stored c.self.invariant.0)
