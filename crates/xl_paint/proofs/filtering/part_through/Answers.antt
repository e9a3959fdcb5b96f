-- The byte that goes through the table is still the old one.
use Rattle.std.proofs.Common.{◌≡◌, ℕ, ◌+◌, slice_index, ◌∙◌, ap, arith}
use Rattle.xl_paint.proofs.Weights.{after_behind, byte_more}
use Rattle.xl_paint.proofs.filtering.part_through.Goals as goal

pub loop-c-preserved : goal.loop-c-preserved
loop-c-preserved c =
    let at = c.args.at in
    let here = c.loop-c.c in
    let old : ℕ → ℕ = slice_index c.args.bytes.now in
    let of : ℕ → ℕ = λ k. slice_index c.args.table.now (old k) in
    let still : slice_index c.loop-c.bytes (at + here) ≡ old (at + here) = c.loop-c.invariant (at + here)
    ∙ after_behind at here _ _ (at + here) (omega arith) in
    byte_more c.loop-c.bytes at here _ of old (omega arith) (ap (slice_index c.args.table.now) still) c.loop-c.invariant
