use Rattle.xl_paint.proofs.KeptAlpha.{AreKept}
use Rattle.xl_paint.proofs.alpha.keep_bytes.Given as goal

-- the pixels so far have their old byte again
abbrev pub invariant-loop-k : goal.invariant-loop-k
invariant-loop-k l = AreKept l.bpp l.kept l.k l.old l.initial.bytes l.bytes
