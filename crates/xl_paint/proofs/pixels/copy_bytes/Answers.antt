-- What was asked of the layers is said of the document's nodes.
use Rattle.std.proofs.Common.{◌≡◌, ◌*◌, ◌∙◌, arith, sym, ap, subst}
use Rattle.spec_edit.specs.Refusal.{node}
use Rattle.xl_doc.specs.Sheet.{Sheet}
use Rattle.xl_paint.specs.declared.places.LayerPart.TheVariants.{Pixels}
use Rattle.xl_paint.specs.declared.places.Site.{Site}
use Rattle.xl_paint.specs.Filling.{AreRows, but_alpha_in, byte_in, in_rows}
use Rattle.xl_paint.specs.Paint.{Paints, copies}
use Rattle.xl_checks.specs.Rects.{rect_from}
use Rattle.xl_paint.proofs.MixedRows.{old_length}
use Rattle.xl_paint.proofs.PaintMade.{of_kept, copy_painted}
use Rattle.xl_paint.proofs.pixels.copy_bytes.Goals as goal

pub bytes_after_layer_copy-requires-clause-new : goal.bytes_after_layer_copy-requires-clause-new
bytes_after_layer_copy-requires-clause-new c =
    let rect = c.args.rect in
    let source = c.in_ok-two.two.from.now in
    let bpp : source.plane.bpp ≡ c.to.inside.plane.bpp = c.in_ok-two.ensures.bpp
    ∙ ap (λ (s : Sheet). s.plane.bpp) (sym c.to.view_is) in
    old_length source.plane (rect_from c.args.u c.args.v rect) c.in_ok-new.new.items c.in_ok-new.ensures
    ∙ (ap (λ n. rect.h * (rect.w * n)) bpp ∙ omega arith)

pub returns-clause-paints : goal.returns-clause-paints
returns-clause-paints c =
    let d = c.args.doc.now in
    let rect = c.args.rect in
    let s = c.in_ok-two.two.to.now in
    let source = c.in_ok-two.two.from.now in
    let new = c.in_ok-new.new.items in
    let keeps = c.keeps_alpha-keeps.result in
    let bytes = c.in_ok-bytes.bytes.items in
    let from = c.args.from.0 in
    let Seen : Sheet → Type 0 = λ q.
    AreRows rect.w rect.h q.plane.bpp
    (byte_in d c.site_of-site.result q.plane rect (but_alpha_in keeps q.plane rect (in_rows (rect.w * q.plane.bpp) q.plane.bpp new))) bytes in
    let P : Site → Type 0 = λ site. AreRows rect.w rect.h s.plane.bpp
    (byte_in d site s.plane rect (but_alpha_in keeps s.plane rect (in_rows (rect.w * s.plane.bpp) s.plane.bpp new))) bytes in
    of_kept (Paints Pixels rect bytes (copies d rect from c.args.u c.args.v)) s keeps (node d c.args.id.0) c.in_ok-two.ensures.to
    (sym c.keeps_alpha-keeps.ensures)
    (copy_painted d s source rect keeps from c.args.u c.args.v new bytes c.in_ok-two.ensures.within c.in_ok-two.ensures.from
    c.in_ok-two.ensures.bpp c.in_ok-new.ensures
    (subst P c.site_of-site.ensures.value (subst Seen c.to.view_is c.in_ok-bytes.ensures)))
