use Rattle.std.proofs.Common.{arith}
use Rattle.xl_tile.proofs.PackedTiles.{tile_plain, tile_spelled}
use Rattle.xl_tile.proofs.packed.check_tile.Goals as goal

pub returns-then-compression-eq0 : goal.returns-then-compression-eq0
returns-then-compression-eq0 c = tile_plain _ _ _ _ _ _ c.if-compression-eq0.true c.check_plain.ensures

pub returns-else-compression-eq0 : goal.returns-else-compression-eq0
returns-else-compression-eq0 c = tile_spelled _ _ _ _ _ _ (omega arith) c.check_run_length.ensures
