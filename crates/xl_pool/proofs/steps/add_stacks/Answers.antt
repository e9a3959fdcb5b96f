use Rattle.xl_tree.specs.declared.naming.NodeId.{NodeId}
use Rattle.xl_pool.proofs.Turns.{come-here}
use Rattle.xl_pool.proofs.steps.add_stacks.Goals as goal

pub add_node-requires-clause-few : goal.add_node-requires-clause-few
add_node-requires-clause-few c =
    let any : NodeId = record { 0 = 0 } in
    let here = come-here c.args.stacks.now c.loop-stack.stack-index c.args.version c.args.cache.now c.args.pool.now
    c.loop-stack.cache c.loop-stack.pool any c.loop-stack-test.true c.loop-stack.invariant in
    here.1
