use Rattle.std.proofs.Common.{arith}
use Rattle.xl_tile.proofs.PackedTiles.{in_runs}
use Rattle.xl_tile.proofs.stored.Stored.bytes.Goals as goal

pub unpack-requires-clause-packed : goal.unpack-requires-clause-packed
unpack-requires-clause-packed c = rw (c.as_slice-file.ensures.value, c.deref.ensures) (in_runs c.self.invariant (omega arith))
