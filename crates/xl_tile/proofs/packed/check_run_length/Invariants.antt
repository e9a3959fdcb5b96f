use Rattle.xl_tile.proofs.PackedTiles.{Checking}
use Rattle.xl_tile.proofs.packed.check_run_length.Given as goal

-- the planes so far are walked
abbrev pub invariant-loop-c : goal.invariant-loop-c
invariant-loop-c l = Checking l.bytes l.initial.at l.n l.bpp l._c l.at
