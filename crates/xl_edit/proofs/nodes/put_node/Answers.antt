-- The tree is the document's, before and after.
use Rattle.std.proofs.Common.{refl}
use Rattle.spec_document.specs.Changes.{put_into}
use Rattle.xl_edit.specs.Nodes.{one_node}
use Rattle.xl_edit.proofs.Accepted.{limits_kept}
use Rattle.xl_paint.proofs.Limited.{distinct_in}
use Rattle.xl_edit.proofs.nodes.put_node.Goals as goal

pub put_node_in-requires-clause-ids : goal.put_node_in-requires-clause-ids
put_node_in-requires-clause-ids c = distinct_in _ _ refl c.doc.invariant.limits

pub invariant_of-doc : goal.invariant_of-doc
invariant_of-doc c = record {
  marks = c.put_node_in.ensures.marks;
  limits = limits_kept _ c.args.doc.now
      (put_into c.args.parent.0 c.args.place (one_node c.args.id.0 c.args.node)) _ c.doc.view_is c.doc.invariant.limits
      c.requires.limits c.put_node_in.ensures.done;
}
