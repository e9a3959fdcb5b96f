use Rattle.std.proofs.Common.{◌∙◌, ap}
use Rattle.std.specs.Prelude.{is_some}
use Rattle.spec_history.specs.Machine as machine
use Rattle.xl_pool.proofs.Trees.{has_stack-tree}
use Rattle.xl_pool.proofs.stacks.has_stack.Goals as goal

pub returns : goal.returns
returns c =
    c.is_some.ensures
    ∙ (ap is_some c.stack.ensures.value
    ∙ (has_stack-tree c.args.stack.0 c.doc.inside.tree ∙ ap (λ d. machine.has_stack d c.args.stack.0) c.doc.view_is))
