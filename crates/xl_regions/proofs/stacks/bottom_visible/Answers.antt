use Rattle.std.proofs.Common.{sym, ◌∙◌, ap}
use Rattle.spec_damage.specs.Damage as damage
use Rattle.xl_regions.proofs.Nodes.{bottom-stack}
use Rattle.xl_regions.proofs.stacks.bottom_visible.Goals as goal

pub returns : goal.returns
returns c =
    c.bottom_visible.ensures ∙ (sym (bottom-stack c.args.stack.0 c.doc.inside.tree)
    ∙ ap (λ d. damage.bottom_visible d c.args.stack.0) c.doc.view_is)
