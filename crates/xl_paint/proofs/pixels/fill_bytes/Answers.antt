-- What was asked of the layer is said of the document's node.
use Rattle.std.proofs.Common.{ℕ, sym, subst}
use Rattle.std.specs.Prelude.{slice_index}
use Rattle.spec_edit.specs.Refusal.{node}
use Rattle.xl_doc.specs.Sheet.{Sheet}
use Rattle.xl_paint.specs.declared.places.LayerPart.TheVariants.{Pixels}
use Rattle.xl_paint.specs.declared.places.Site.{Site}
use Rattle.xl_paint.specs.Filling.{AreRows, but_alpha_in, byte_in}
use Rattle.xl_paint.specs.Paint.{spread_over, Paints, fills}
use Rattle.xl_paint.proofs.PaintMade.{of_kept, fill_painted}
use Rattle.xl_paint.proofs.pixels.fill_bytes.Goals as goal

pub returns-clause-paints : goal.returns-clause-paints
returns-clause-paints c =
    let d = c.args.doc.now in
    let rect = c.args.rect in
    let pixel = c.args.pixel.now in
    let s = c.in_ok-layer.layer.now in
    let keeps = c.keeps_alpha-keeps.result in
    let bytes = spread_over rect c.in_ok-bytes.bytes.spread c.in_ok-bytes.bytes.given.items in
    let new : ℕ → ℕ → ℕ → ℕ = λ column row b. slice_index pixel b in
    let Seen : Sheet → Type 0 = λ q.
    AreRows rect.w rect.h q.plane.bpp (byte_in d c.site_of-site.result q.plane rect (but_alpha_in keeps q.plane rect new)) bytes in
    let P : Site → Type 0 = λ site.
    AreRows rect.w rect.h s.plane.bpp (byte_in d site s.plane rect (but_alpha_in keeps s.plane rect new)) bytes in
    of_kept (Paints Pixels rect bytes (fills d rect pixel)) s keeps (node d c.args.id.0) c.in_ok-layer.ensures.found
    (sym c.keeps_alpha-keeps.ensures)
    (fill_painted d s rect keeps pixel bytes c.in_ok-layer.ensures.within
    (subst P c.site_of-site.ensures.value (subst Seen c.layer.view_is c.in_ok-bytes.ensures)))
