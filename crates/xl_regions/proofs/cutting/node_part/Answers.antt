use Rattle.std.proofs.Common.{◌≡◌, Bool, true, false, refl, sym, ◌∙◌, ap, subst}
use Rattle.std.specs.Prelude.{Option, Some, None, ◌+ℤ◌}
use Rattle.std.specs.Option.{option_copied}
use Rattle.spec_document.specs.Forest.{Found, find}
use Rattle.spec_document.specs.Document.{Layer, Group}
use Rattle.spec_document.specs.Rect.{lies_on}
use Rattle.spec_edit.specs.declared.EditRefused.{EditRefused}
use Rattle.spec_edit.specs.declared.EditRefused.TheVariants.{OutsideLayer}
use Rattle.spec_edit.specs.Refusal.{unless, of_leaf}
use Rattle.spec_damage.specs.Damage.{moved}
use Rattle.xl_tree.specs.Reads.{node_of}
use Rattle.xl_doc.specs.Nodes.{IsLeaf, IsGroup}
use Rattle.xl_doc.specs.Nodes as nodes
use Rattle.xl_checks.proofs.Seen.{no_node_seen, leaf_seen, group_seen, IsLeafAt, IsGroupAt}
use Rattle.xl_regions.proofs.cutting.node_part.Goals as goal

held : (b : Bool) (cause : EditRefused) → unless b cause ≡ None → b ≡ true
held true cause e = refl
held false cause e = cc

pub returns-in_default-clause-value : goal.returns-in_default-clause-value
returns-in_default-clause-value c =
    let e : node_of (find c.args.id.0 c.doc.inside.tree) ≡ None = sym c.find.ensures ∙ ap option_copied c.in_default.is in
    c.no_rect.ensures.value ∙ (ap (λ f. moved f c.args.rect)
    (sym (no_node_seen c.args.id.0 c.doc.inside.tree c.doc.invariant.marks e))
    ∙ ap (λ d. moved (find c.args.id.0 d.nodes) c.args.rect) c.doc.view_is)

pub layer_part-requires : goal.layer_part-requires
layer_part-requires c =
    let e : node_of (find c.args.id.0 c.doc.inside.tree) ≡ Some c.in-Some.node.now = sym c.find.ensures
    ∙ ap option_copied c.in-Some.is in
    let at : IsLeafAt c.args.id.0 c.in-Some.node.now c.doc.inside.tree =
    leaf_seen c.args.id.0 c.doc.inside.tree c.in-Some.node.now c.doc.invariant.marks e (subst IsLeaf (sym c.in-Leaf.is) tt) in
    let own = ap (λ b. nodes.sheet_of b) c.in-Leaf.is in
    let rule : Found Layer Group → Option EditRefused =
    λ f. of_leaf (λ l. unless (lies_on l.plane.width l.plane.height c.args.rect) OutsideLayer) f in
    let passed = ap rule (sym at.seen) ∙ (ap (λ d. rule (find c.args.id.0 d.nodes)) c.doc.view_is ∙ c.requires) in
    ap (λ s. lies_on s.plane.width s.plane.height c.args.rect) (sym own) ∙ held _ OutsideLayer passed

pub returns-in-Leaf-clause-value : goal.returns-in-Leaf-clause-value
returns-in-Leaf-clause-value c =
    let e : node_of (find c.args.id.0 c.doc.inside.tree) ≡ Some c.in-Some.node.now = sym c.find.ensures
    ∙ ap option_copied c.in-Some.is in
    let at : IsLeafAt c.args.id.0 c.in-Some.node.now c.doc.inside.tree =
    leaf_seen c.args.id.0 c.doc.inside.tree c.in-Some.node.now c.doc.invariant.marks e (subst IsLeaf (sym c.in-Leaf.is) tt) in
    let own = ap (λ b. nodes.sheet_of b) c.in-Leaf.is in
    c.layer_part.ensures.value
    ∙ (ap (λ s. record { x = s.x +ℤ c.args.rect.x; y = s.y +ℤ c.args.rect.y; w = c.args.rect.w; h = c.args.rect.h }) (sym own)
    ∙ (ap (λ f. moved f c.args.rect) (sym at.seen) ∙ ap (λ d. moved (find c.args.id.0 d.nodes) c.args.rect) c.doc.view_is))

pub returns-in-Group-clause-value : goal.returns-in-Group-clause-value
returns-in-Group-clause-value c =
    let e : node_of (find c.args.id.0 c.doc.inside.tree) ≡ Some c.in-Some.node.now = sym c.find.ensures
    ∙ ap option_copied c.in-Some.is in
    let at : IsGroupAt c.args.id.0 c.in-Some.node.now c.doc.inside.tree =
    group_seen c.args.id.0 c.doc.inside.tree c.in-Some.node.now c.doc.invariant.marks e (subst IsGroup (sym c.in-Group.is) tt) in
    c.no_rect-in-Group.ensures.value
    ∙ (ap (λ f. moved f c.args.rect) (sym at.seen) ∙ ap (λ d. moved (find c.args.id.0 d.nodes) c.args.rect) c.doc.view_is)
