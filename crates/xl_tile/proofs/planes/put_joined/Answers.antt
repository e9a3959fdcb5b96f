use Rattle.std.proofs.Common.{arith}
use Rattle.xl_tile.proofs.JoinedBlocks.{put_row}
use Rattle.xl_tile.proofs.planes.put_joined.Goals as goal

pub returns-clause-each : goal.returns-clause-each
returns-clause-each c =
    put_row c.args.bpp c.args.n c.args.first c.args.w c.args.at _ c.args.planes.now c.join_pixels.new.pixels c.args.out.now
    (omega arith) (omega (arith, c.join_pixels.auto.pixels)) c.requires.out c.requires.within c.join_pixels.ensures
