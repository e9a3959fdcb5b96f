use Rattle.std.proofs.Common.{ℕ, List, ap, ◌∙◌, ◌-◌, sym, drop, length, arith}
use Rattle.xl_bytes.proofs.Parts.{none_skipped, one_skipped, all_skipped}
use Rattle.xl_bytes.proofs.storing.skip_parts.Goals as goal

pub loop-k-init : goal.loop-k-init
loop-k-init c = none_skipped c.args.n c.args.parts.now

pub loop-k-preserved : goal.loop-k-preserved
loop-k-preserved c =
    one_skipped c.args.n c.loop-k.k c.loop-k.left c.skip_in-left.result c.args.parts.now c.loop-k.parts c.skip_in-left.new.part
    c.loop-k.invariant (omega (arith, c.loop-k.invariant.count, c.loop-k-test.true)) c.index-parts-k.result c.index-parts-k.is
    (c.skip_in-left.ensures.left ∙ ap (drop c.loop-k.left) (sym c.index-parts-k.is))
    (c.skip_in-left.ensures.rest ∙ ap (λ (xs : List ℕ). c.loop-k.left - length xs) (sym c.index-parts-k.is))

pub returns-clause-left : goal.returns-clause-left
returns-clause-left c =
    (all_skipped c.args.n c.loop-k.k c.loop-k.left c.args.parts.now c.loop-k.parts c.loop-k.invariant c.loop-k-test.false).0

pub returns-clause-rest : goal.returns-clause-rest
returns-clause-rest c =
    (all_skipped c.args.n c.loop-k.k c.loop-k.left c.args.parts.now c.loop-k.parts c.loop-k.invariant c.loop-k-test.false).1
