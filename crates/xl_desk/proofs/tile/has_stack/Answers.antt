-- The stack of the document is the stack of its tree.
use Rattle.std.proofs.Common.{sym, ◌∙◌, ap}
use Rattle.std.specs.Prelude.{is_some}
use Rattle.spec_document.specs.Forest.{stack_at}
use Rattle.xl_desk.proofs.Numbers.{some-stack}
use Rattle.xl_desk.proofs.tile.has_stack.Goals as goal

pub returns : goal.returns
returns c =
    c.is_some.ensures
    ∙ (ap is_some c.stack.ensures.value
    ∙ (sym (some-stack c.args.node.0 c.document.inside.tree)
    ∙ ap (λ d. is_some (stack_at c.args.node.0 d.nodes)) c.document.view_is))
