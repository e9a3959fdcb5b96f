-- What was asked of the layer is said of the document's node.
use Rattle.std.proofs.Common.{false}
use Rattle.spec_edit.specs.Refusal.{node}
use Rattle.xl_paint.specs.declared.places.LayerPart.TheVariants.{Pixels}
use Rattle.xl_paint.specs.Paint.{Paints, writes}
use Rattle.xl_paint.proofs.PaintMade.{of_kept, given_painted}
use Rattle.xl_paint.proofs.pixels.check_given.Goals as goal

pub returns-clause-paints : goal.returns-clause-paints
returns-clause-paints c =
    let d = c.args.doc.now in
    let rect = c.args.rect in
    let bytes = c.args.bytes.now in
    let s = c.in_ok-writable.field-0.now in
    of_kept (Paints Pixels rect bytes (writes d rect bytes)) s false (node d c.args.id.0) c.in_ok-writable.ensures.found
    c.requires.free
    (given_painted d s rect bytes c.requires.whole c.in_ok-writable.ensures.within c.in_ok-writable.ensures.full)
