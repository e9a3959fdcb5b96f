use Rattle.std.proofs.Common.{sym, ap, ◌∙◌}
use Rattle.spec_document.specs.Rect.{meet, sheet}
use Rattle.spec_document.specs.Picture.{hull_of}
use Rattle.xl_doc.proofs.Hulls.{some_stack, extent_is}
use Rattle.xl_doc.proofs.NodesOf.{agrees_in}
use Rattle.xl_doc.proofs.document.Document.group_extent.Goals as goal

pub unwrap-children-requires : goal.unwrap-children-requires
unwrap-children-requires c =
    rw c.stack.ensures.value (some_stack c.args.id.0 c.self.inside.tree (rw (← c.self.view_is) at c.requires.group))

pub hull_of-requires : goal.hull_of-requires
hull_of-requires c = agrees_in c.args.id.0 c.self.inside.tree c.unwrap-children.result c.self.invariant.marks
    (sym c.stack.ensures.value ∙ c.unwrap-children.ensures)

pub returns : goal.returns
returns c =
    let d = c.args.self.now in
    let is = extent_is d c.args.id.0 c.self.inside.tree c.unwrap-children.result c.requires.some
    (ap (λ d. d.nodes) (sym c.self.view_is)) (sym c.stack.ensures.value ∙ c.unwrap-children.ensures) in
    c.meet.ensures ∙ ((λ i. meet (c.hull_of.ensures.value i) (ap (λ d. sheet d.width d.height) c.self.view_is i)) ∙ sym is)
