-- The tree is the document's, before and after.
use Rattle.std.proofs.Common.{refl}
use Rattle.spec_document.specs.Changes.{without}
use Rattle.spec_edit.specs.Edit as edits
use Rattle.xl_edit.proofs.Accepted.{limits_after, limits_kept}
use Rattle.xl_paint.proofs.Limited.{distinct_in, sound_kept}
use Rattle.xl_edit.proofs.nodes.delete.Goals as goal

pub take_node-requires-clause-ids : goal.take_node-requires-clause-ids
take_node-requires-clause-ids c = distinct_in _ _ refl c.doc.invariant.limits

pub invariant_of-doc : goal.invariant_of-doc
invariant_of-doc c = sound_kept _ _ _ refl c.in_err-take_node.ensures.err c.doc.invariant

pub invariant_of-doc-2 : goal.invariant_of-doc-2
invariant_of-doc-2 c = record {
  marks = c.take_node.ensures.marks;
  limits = limits_kept _ c.args.doc.now (without c.args.id.0) _ c.doc.view_is c.doc.invariant.limits
      (limits_after c.args.doc.now (edits.delete c.args.id.0) tt refl c.in_ok-check_node.ensures.there)
      c.in_ok-take_node.ensures.ok;
}
