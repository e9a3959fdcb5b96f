-- The byte that is mixed is still the old one.
use Rattle.std.proofs.Common.{◌≡◌, ℕ, ◌+◌, ◌-◌, slice_index, ◌∙◌, sym, arith}
use Rattle.spec_edit.specs.Effect.{mixed}
use Rattle.xl_paint.proofs.Weights.{after_behind, byte_more}
use Rattle.xl_paint.proofs.mixing.mix_at.Goals as goal

pub loop-k-preserved : goal.loop-k-preserved
loop-k-preserved c =
    let at = c.args.at in
    let here = c.loop-k.k in
    let old : ℕ → ℕ = slice_index c.args.bytes.now in
    let of : ℕ → ℕ = λ k. mixed (slice_index c.args.weights.now (k - at)) (slice_index c.args.new.now (k - at)) (old k) in
    let column : at + here - at ≡ here = omega arith in
    let still : slice_index c.loop-k.bytes (at + here) ≡ old (at + here) = c.loop-k.invariant (at + here)
    ∙ after_behind at here _ _ (at + here) (omega arith) in
    byte_more c.loop-k.bytes at here _ of old (omega arith)
    (c.mix.ensures ∙ (λ i. mixed (slice_index c.args.weights.now (sym column i)) (slice_index c.args.new.now (sym column i))
    (still i))) c.loop-k.invariant
