use Rattle.std.proofs.Common.{slice_index, refl, arith}
use Rattle.xl_paint.proofs.Weights.{byte_more}
use Rattle.xl_paint.proofs.mixing.fill_part.Goals as goal

pub loop-c-preserved : goal.loop-c-preserved
loop-c-preserved c =
    byte_more c.loop-c.out c.args.at c.loop-c.c c.args.value (λ k. c.args.value) (slice_index c.args.out.now)
    (omega arith) refl c.loop-c.invariant
