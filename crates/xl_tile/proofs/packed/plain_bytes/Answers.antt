use Rattle.std.proofs.Common.{◌∙◌}
use Rattle.xl_tile.proofs.PackedTiles.{plain_reads}
use Rattle.xl_tile.proofs.packed.plain_bytes.Goals as goal

pub piece-requires : goal.piece-requires
piece-requires c = (plain_reads _ _ _ _ c.requires.packed).0

pub returns : goal.returns
returns c = c.piece.ensures.value ∙ (plain_reads _ _ _ _ c.requires.packed).1
