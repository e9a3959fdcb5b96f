use Rattle.std.proofs.Common.{◌∙◌, ap, sym}
use Rattle.xl_compose.proofs.Depths.{levels_are}
use Rattle.xl_compose.proofs.Recomposed.{some_stack}
use Rattle.xl_compose.proofs.recompose.levels_of.Goals as goal

pub unwrap-requires : goal.unwrap-requires
unwrap-requires c =
    rw c.stack.ensures.value (some_stack c.args.stack.0 c.doc.inside.tree (rw (← c.doc.view_is) at c.requires.stack))

pub returns-clause-levels : goal.returns-clause-levels
returns-clause-levels c =
    c.levels.ensures.levels
    ∙ sym (levels_are c.args.doc.now c.args.stack.0 c.doc.inside.tree c.unwrap.result (ap (λ d. d.nodes) (sym c.doc.view_is))
    (sym c.stack.ensures.value ∙ c.unwrap.ensures))
