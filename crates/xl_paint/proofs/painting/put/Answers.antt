-- The tree is the document's, before and after.
use Rattle.std.proofs.Common.{refl, arith}
use Rattle.spec_document.proofs.ByteLists.{are_bytes}
use Rattle.xl_paint.proofs.Limited.{distinct_in, sound_kept}
use Rattle.xl_paint.specs.Paint.{spread_over}
use Rattle.xl_paint.proofs.FilledRows.{spread_bytes}
use Rattle.xl_paint.proofs.PartsWritten.{put_is, put_limits}
use Rattle.xl_paint.proofs.painting.put.Goals as goal

pub put_at-requires-clause-ids : goal.put_at-requires-clause-ids
put_at-requires-clause-ids c = distinct_in _ _ refl c.doc.invariant.limits

pub invariant_of-doc : goal.invariant_of-doc
invariant_of-doc c = sound_kept _ _ _ refl c.in_err-put_at.ensures.err c.doc.invariant

pub invariant_of-doc-2 : goal.invariant_of-doc-2
invariant_of-doc-2 c = record {
  marks = c.put_at.ensures.marks;
  limits = put_limits _ c.args.doc.now c.args.id.0 c.args.part c.args.rect (spread_over c.args.rect c.args.spread c.args.bytes.now) _ c.doc.invariant.limits
      (spread_bytes c.args.rect c.args.spread c.args.bytes.now
      (are_bytes c.args.bytes.now (λ i. omega (arith, c.type_inv.bytes i)))) c.in_ok-put_at.ensures.ok;
}

pub returns-clause-ok : goal.returns-clause-ok
returns-clause-ok c =
    put_is _ c.args.doc.now c.args.id.0 c.args.part c.args.rect (spread_over c.args.rect c.args.spread c.args.bytes.now) _ c.doc.view_is c.in_ok-put_at.ensures.ok
