-- The tree is the document's, before and after.
use Rattle.std.proofs.Common.{◌≡◌, refl, sym, subst}
use Rattle.std.specs.Prelude.{None}
use Rattle.spec_document.specs.Changes.{branch_of, put_into, without}
use Rattle.spec_document.specs.Document.{Document, Nodes}
use Rattle.spec_edit.specs.Edit as edits
use Rattle.xl_tree.specs.Refusals.{restack_refusal}
use Rattle.xl_edit.proofs.Accepted.{limits_after, limits_kept}
use Rattle.xl_edit.proofs.NodesRestacked.{restack_free}
use Rattle.xl_edit.proofs.restacking.restack.Goals as goal

pub move_node-requires-clause-free : goal.move_node-requires-clause-free
move_node-requires-clause-free c =
    let a = c.args in
    let P : Document → Type 0 = λ x. restack_refusal a.id.0 a.parent.0 a.place x.nodes ≡ None in
    subst P (sym c.doc.view_is) (restack_free c.args.doc.now a.id.0 a.parent.0 a.place c.in_ok-check_restack.ensures.allowed)

pub move_node-requires-clause-low : goal.move_node-requires-clause-low
move_node-requires-clause-low c =
    let a = c.args in
    let change : Nodes → Nodes = λ nodes. put_into a.parent.0 a.place (branch_of a.id.0 nodes) (without a.id.0 nodes) in
    (limits_kept _ c.args.doc.now change _ c.doc.view_is c.doc.invariant.limits
    (limits_after c.args.doc.now (edits.restack a.id.0 a.parent.0 a.place) tt refl c.in_ok-check_restack.ensures.allowed) refl).low

pub invariant_of-doc : goal.invariant_of-doc
invariant_of-doc c =
    let a = c.args in
    let change : Nodes → Nodes = λ nodes. put_into a.parent.0 a.place (branch_of a.id.0 nodes) (without a.id.0 nodes) in
    record {
      marks = c.move_node.ensures.marks;
      limits = limits_kept _ c.args.doc.now change _ c.doc.view_is c.doc.invariant.limits
          (limits_after c.args.doc.now (edits.restack a.id.0 a.parent.0 a.place) tt refl c.in_ok-check_restack.ensures.allowed)
          c.move_node.ensures.done;
    }
