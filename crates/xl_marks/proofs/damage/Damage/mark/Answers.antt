use Rattle.std.proofs.Common.{◌+◌, ◌∙◌, ap, drop}
use Rattle.xl_regions.specs.Pairs.{pairs_of}
use Rattle.spec_standing.specs.Change.{marked_by}
use Rattle.xl_marks.proofs.Marked.{marked-next}
use Rattle.xl_marks.proofs.damage.Damage.mark.Goals as goal

pub loop-stack-preserved : goal.loop-stack-preserved
loop-stack-preserved c =
    let damage = c.as_slice-stack-items.result.now in
    ap (λ k. marked_by (pairs_of (drop (c.loop-stack.stack-index + 1) damage)) c.args.version k) c.mark.ensures
    ∙ marked-next damage c.loop-stack.stack-index c.args.version c.args.cache.now c.loop-stack.cache _ c.loop-stack-test.true
    c.loop-stack.invariant
