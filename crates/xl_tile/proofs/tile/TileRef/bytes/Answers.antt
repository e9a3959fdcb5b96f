use Rattle.std.proofs.Common.{◌∙◌, arith}
use Rattle.std.proofs.lemmas.List.{length-take-le}
use Rattle.xl_tile.proofs.tile.TileRef.bytes.Goals as goal

pub read-requires-clause-out : goal.read-requires-clause-out
read-requires-clause-out c =
    length-take-le c.len.result c.split_at_mut-planes.result.1.now
    (omega (arith, c.len.ensures.few, c.split_at_mut-planes.ensures.back_len, c.requires))
    ∙ c.len.ensures.value
