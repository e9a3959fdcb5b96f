use Rattle.xl_tile.proofs.Decoded.{Decoding}
use Rattle.xl_tile.proofs.run_length.planes_at.Given as goal

-- the planes so far stand one after another
abbrev pub invariant-loop-c : goal.invariant-loop-c
invariant-loop-c l = Decoding l.bytes l.initial.at l.n l.bpp l.c l.at l.planes
