use Rattle.std.proofs.Common.{◌+◌, sym, ◌∙◌, ap, subst}
use Rattle.xl_pool.proofs.Turns.{HaveGone, slots-sides, gone-next}
use Rattle.xl_pool.proofs.steps.drop_stacks.Goals as goal

pub put-requires-clause-width : goal.put-requires-clause-width
put-requires-clause-width c =
    let sides = slots-sides c.args.pool.now.width c.args.pool.now.height c.loop-stack.cache _ c.in-Some.slots
    c.loop-stack.invariant.canvas (sym c.drop_node.ensures.value ∙ c.in-Some.is) in
    sides.width_is ∙ sym (ap (λ p. p.width) c.loop-stack.invariant.pool_is)

pub put-requires-clause-height : goal.put-requires-clause-height
put-requires-clause-height c =
    let sides = slots-sides c.args.pool.now.width c.args.pool.now.height c.loop-stack.cache _ c.in-Some.slots
    c.loop-stack.invariant.canvas (sym c.drop_node.ensures.value ∙ c.in-Some.is) in
    sides.height_is ∙ sym (ap (λ p. p.height) c.loop-stack.invariant.pool_is)

pub loop-stack-preserved : goal.loop-stack-preserved
loop-stack-preserved c =
    subst (λ p. HaveGone c.args.stacks.now (c.loop-stack.stack-index + 1) c.args.cache.now c.args.pool.now c.drop_node.new.self p)
    (sym c.put.ensures)
    (subst (λ k. HaveGone c.args.stacks.now (c.loop-stack.stack-index + 1) c.args.cache.now c.args.pool.now k
    (record c.loop-stack.pool { count = c.loop-stack.pool.count + 1 })) (sym c.drop_node.ensures.rest)
    (gone-next c.args.stacks.now c.loop-stack.stack-index c.args.cache.now c.args.pool.now c.loop-stack.cache c.loop-stack.pool _
    c.loop-stack-test.true c.loop-stack.invariant))
