-- What was asked of the layer is said of the document's node.
use Rattle.std.proofs.Common.{◌*◌, sym, subst}
use Rattle.spec_edit.specs.Refusal.{node}
use Rattle.xl_doc.specs.Sheet.{Sheet}
use Rattle.xl_paint.specs.declared.places.LayerPart.TheVariants.{Pixels}
use Rattle.xl_paint.specs.declared.places.Site.{Site}
use Rattle.xl_paint.specs.Filling.{AreRows, but_alpha_in, byte_in, in_rows}
use Rattle.xl_paint.specs.Paint.{Paints, writes}
use Rattle.xl_paint.proofs.PaintMade.{of_kept, write_painted}
use Rattle.xl_paint.proofs.pixels.write_bytes.Goals as goal

pub returns-clause-paints : goal.returns-clause-paints
returns-clause-paints c =
    let d = c.args.doc.now in
    let rect = c.args.rect in
    let given = c.args.bytes.now in
    let s = c.in_ok-layer.layer.now in
    let keeps = c.keeps_alpha-keeps.result in
    let mixed = c.in_ok-mixed.mixed.items in
    let Seen : Sheet → Type 0 = λ q.
    AreRows rect.w rect.h q.plane.bpp
    (byte_in d c.site_of-site.result q.plane rect (but_alpha_in keeps q.plane rect (in_rows (rect.w * q.plane.bpp) q.plane.bpp given))) mixed in
    let P : Site → Type 0 = λ site. AreRows rect.w rect.h s.plane.bpp
    (byte_in d site s.plane rect (but_alpha_in keeps s.plane rect (in_rows (rect.w * s.plane.bpp) s.plane.bpp given))) mixed in
    of_kept (Paints Pixels rect mixed (writes d rect given)) s keeps (node d c.args.id.0) c.in_ok-layer.ensures.found
    (sym c.keeps_alpha-keeps.ensures)
    (write_painted d s rect keeps given mixed c.in_ok-layer.ensures.within
    (subst P c.site_of-site.ensures.value (subst Seen c.layer.view_is c.in_ok-mixed.ensures)))
