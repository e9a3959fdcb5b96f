use Rattle.std.proofs.Common.{◌≡◌, sym, ◌∙◌, ap, subst}
use Rattle.std.specs.Prelude.{Some, None, IsSome}
use Rattle.std.specs.Option.{option_copied}
use Rattle.spec_document.specs.Forest.{find, stack_at}
use Rattle.spec_document.specs.Rect.{meet, sheet}
use Rattle.spec_document.specs.Document.{Document}
use Rattle.spec_document.specs.Picture.{extent, rect_found}
use Rattle.xl_grid.specs.Small.{IsSmall}
use Rattle.xl_tree.specs.Reads.{node_of}
use Rattle.xl_doc.specs.Nodes.{nodes_of, IsLeaf, IsGroup}
use Rattle.xl_doc.specs.Nodes as nodes
use Rattle.xl_checks.proofs.Seen.{no_node_seen, leaf_seen, group_seen, IsLeafAt, IsGroupAt}
use Rattle.xl_regions.proofs.Nodes.{group_not_0, group_stack}
use Rattle.xl_regions.proofs.Small.{extent_small}
use Rattle.xl_regions.proofs.cutting.extent.Goals as goal

pub returns-in_default-clause-value : goal.returns-in_default-clause-value
returns-in_default-clause-value c =
    let e : node_of (find c.args.id.0 c.doc.inside.tree) ≡ None = sym c.find.ensures ∙ ap option_copied c.in_default.is in
    let gone = no_node_seen c.args.id.0 c.doc.inside.tree c.doc.invariant.marks e in
    let at = ap (λ f. rect_found f) gone in
    c.part_on_canvas.ensures ∙ (ap (λ r. meet r (sheet c.args.doc.now.width c.args.doc.now.height)) (c.no_rect.ensures.value
    ∙ (sym at ∙ ap (λ d. rect_found (find c.args.id.0 d.nodes)) c.doc.view_is)))

pub group_extent-requires-clause-some : goal.group_extent-requires-clause-some
group_extent-requires-clause-some c =
    let e : node_of (find c.args.id.0 c.doc.inside.tree) ≡ Some c.in-Some.node.now = sym c.find.ensures
    ∙ ap option_copied c.in-Some.is in
    let at : IsGroupAt c.args.id.0 c.in-Some.node.now c.doc.inside.tree =
    group_seen c.args.id.0 c.doc.inside.tree c.in-Some.node.now c.doc.invariant.marks e (subst IsGroup (sym c.in-Group.is) tt) in
    group_not_0 c.args.id.0 (nodes_of c.doc.inside.tree) _ _ c.doc.invariant.limits.ids.positive at.seen

pub group_extent-requires-clause-group : goal.group_extent-requires-clause-group
group_extent-requires-clause-group c =
    let e : node_of (find c.args.id.0 c.doc.inside.tree) ≡ Some c.in-Some.node.now = sym c.find.ensures
    ∙ ap option_copied c.in-Some.is in
    let at : IsGroupAt c.args.id.0 c.in-Some.node.now c.doc.inside.tree =
    group_seen c.args.id.0 c.doc.inside.tree c.in-Some.node.now c.doc.invariant.marks e (subst IsGroup (sym c.in-Group.is) tt) in
    let P : Document → Type 0 = λ d. IsSome (stack_at c.args.id.0 d.nodes) in
    subst P c.doc.view_is (group_stack c.args.id.0 (nodes_of c.doc.inside.tree) _ _ at.seen)

pub returns-in-Leaf-clause-value : goal.returns-in-Leaf-clause-value
returns-in-Leaf-clause-value c =
    let e : node_of (find c.args.id.0 c.doc.inside.tree) ≡ Some c.in-Some.node.now = sym c.find.ensures
    ∙ ap option_copied c.in-Some.is in
    let at : IsLeafAt c.args.id.0 c.in-Some.node.now c.doc.inside.tree =
    leaf_seen c.args.id.0 c.doc.inside.tree c.in-Some.node.now c.doc.invariant.marks e (subst IsLeaf (sym c.in-Leaf.is) tt) in
    let own = ap (λ b. nodes.sheet_of b) c.in-Leaf.is in
    c.part_on_canvas-in-Leaf.ensures ∙ (ap (λ r. meet r (sheet c.args.doc.now.width c.args.doc.now.height))
    (c.layer_rect.ensures.value ∙ (ap (λ s. record { x = s.x; y = s.y; w = s.plane.width; h = s.plane.height }) (sym own)
    ∙ (ap (λ f. rect_found f) (sym at.seen) ∙ ap (λ d. rect_found (find c.args.id.0 d.nodes)) c.doc.view_is))))

pub returns-in-Leaf-clause-small : goal.returns-in-Leaf-clause-small
returns-in-Leaf-clause-small c =
    let P : Document → Type 0 = λ d. IsSmall (extent d c.args.id.0) in
    subst IsSmall (sym (returns-in-Leaf-clause-value c)) (subst P c.doc.view_is (extent_small _ c.args.id.0 c.doc.invariant.limits))

pub returns-in-Group-clause-small : goal.returns-in-Group-clause-small
returns-in-Group-clause-small c =
    let P : Document → Type 0 = λ d. IsSmall (extent d c.args.id.0) in
    subst IsSmall (sym c.group_extent.ensures) (subst P c.doc.view_is (extent_small _ c.args.id.0 c.doc.invariant.limits))
