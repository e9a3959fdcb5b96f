-- What was asked of the layer is said of the document's node.
use Rattle.spec_edit.specs.Refusal.{node}
use Rattle.xl_paint.specs.declared.places.LayerPart.TheVariants.{Mask}
use Rattle.xl_paint.specs.Paint.{spread_over, Paints, fills_mask}
use Rattle.xl_checks.proofs.LayerFound.{of_sheet}
use Rattle.xl_paint.proofs.PaintMade.{mask_painted}
use Rattle.xl_paint.proofs.pixels.mask_bytes.Goals as goal

pub returns-clause-paints : goal.returns-clause-paints
returns-clause-paints c =
    let d = c.args.doc.now in
    let rect = c.args.rect in
    let s = c.in_ok-layer.layer.now in
    let bytes = spread_over rect c.in_ok-bytes.bytes.spread c.in_ok-bytes.bytes.given.items in
    of_sheet (Paints Mask rect bytes (fills_mask d rect c.args.value)) s (node d c.args.id.0) c.in_ok-layer.ensures.found
    (mask_painted d s rect c.args.value bytes c.in_ok-bytes.ensures)
