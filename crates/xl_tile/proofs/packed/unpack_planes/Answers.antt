use Rattle.xl_tile.proofs.JoinedBlocks.{planes_are}
use Rattle.xl_tile.proofs.packed.unpack_planes.Goals as goal

pub returns : goal.returns
returns c = planes_are _ _ _ _ _ _ c.requires.packed c.planes_at-never.ensures
