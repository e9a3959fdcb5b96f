use Rattle.std.proofs.Common.{refl}
use Rattle.std.proofs.lemmas.Slice.{pushed}
use Rattle.xl_tiles.proofs.UniformTiles.{one_more}
use Rattle.xl_tiles.proofs.fill.repeat.Goals as goal

pub loop-i-preserved : goal.loop-i-preserved
loop-i-preserved c =
    one_more c.args.piece.now c.loop-i._i c.loop-i.all.items c.extend_from_slice.new.self.items c.loop-i.invariant
    (pushed c.args.piece.now refl c.in_ok-extend_from_slice.was c.extend_from_slice.ensures.items)
