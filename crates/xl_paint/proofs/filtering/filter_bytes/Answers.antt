-- What was asked of the layer is said of the document's node.
use Rattle.std.proofs.Common.{◌*◌, ◌∙◌, ap, sym, subst}
use Rattle.spec_edit.specs.Refusal.{node}
use Rattle.xl_doc.specs.Sheet.{Sheet}
use Rattle.xl_paint.specs.declared.places.LayerPart.TheVariants.{Pixels}
use Rattle.xl_paint.specs.declared.places.Site.{Site}
use Rattle.xl_paint.specs.Filling.{AreRows, byte_in, in_rows}
use Rattle.xl_paint.specs.Filtered.{filters}
use Rattle.xl_paint.specs.Paint.{Paints}
use Rattle.xl_paint.proofs.FilteredRows.{filter_painted}
use Rattle.xl_checks.proofs.LayerFound.{of_sheet}
use Rattle.xl_paint.proofs.filtering.filter_bytes.Goals as goal

pub bytes_after_own_write-requires-clause-new : goal.bytes_after_own_write-requires-clause-new
bytes_after_own_write-requires-clause-new c =
    let rect = c.args.rect in
    c.in_ok-new.ensures.size ∙ ap (λ (s : Sheet). rect.w * rect.h * s.plane.bpp) (sym c.layer.view_is)

pub returns-clause-paints : goal.returns-clause-paints
returns-clause-paints c =
    let d = c.args.doc.now in
    let rect = c.args.rect in
    let s = c.in_ok-layer.layer.now in
    let new = c.in_ok-new.new.items in
    let bytes = c.in_ok-bytes.bytes.items in
    let Seen : Sheet → Type 0 = λ q.
    AreRows rect.w rect.h q.plane.bpp
    (byte_in d c.site_of-site.result q.plane rect (in_rows (rect.w * q.plane.bpp) q.plane.bpp new)) bytes in
    let P : Site → Type 0 = λ site. AreRows rect.w rect.h s.plane.bpp
    (byte_in d site s.plane rect (in_rows (rect.w * s.plane.bpp) s.plane.bpp new)) bytes in
    of_sheet (Paints Pixels rect bytes (filters d rect c.args.table.now)) s (node d c.args.id.0) c.in_ok-layer.ensures.found
    (filter_painted d s rect c.args.table.now new bytes c.in_ok-layer.ensures.within c.in_ok-new.ensures
    (subst P c.site_of-site.ensures.value (subst Seen c.layer.view_is c.in_ok-bytes.ensures)))
