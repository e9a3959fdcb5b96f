use Rattle.std.proofs.Common.{◌∙◌, ap}
use Rattle.std.specs.Prelude.{is_some}
use Rattle.spec_document.specs.Forest.{none}
use Rattle.xl_tree.specs.Places.{end_at}
use Rattle.xl_tree.proofs.Paths.{leads}
use Rattle.xl_tree.proofs.forest.Tree.leads.Goals as goal

pub returns : goal.returns
returns g c =
    c.is_some.ensures ∙ (ap is_some (c.end_at.ensures ∙ ap (end_at c.args.path.now) c.top.ensures.value)
    ∙ leads c.args.path.now none c.args.self.now)
