-- Without a selection it is the pixel, again and again.
use Rattle.std.proofs.Common.{ℕ, List, ◌*◌, sym, subst}
use Rattle.std.specs.Prelude.{slice_index}
use Rattle.xl_tiles.specs.Repeated.{repeated}
use Rattle.xl_paint.specs.Filling.{AreRows, byte_in}
use Rattle.xl_paint.proofs.FilledRows.{whole_rows, pixel_rows}
use Rattle.xl_paint.proofs.filling.bytes_after_fill.Goals as goal

pub returns-then-is_whole : goal.returns-then-is_whole
returns-then-is_whole c =
    let rect = c.args.rect in
    let pixel = c.args.pixel.now in
    let p = c.args.plane.now in
    let new : ℕ → ℕ → ℕ → ℕ = λ column row b. slice_index pixel b in
    let P : ℕ → Type 0 = λ n. AreRows rect.w rect.h n new (repeated (rect.w * rect.h) pixel) in
    let Q : List ℕ → Type 0 = λ given.
    AreRows rect.w rect.h p.bpp (byte_in c.args.doc.now c.args.site p rect new) (repeated (rect.w * rect.h) given) in
    subst Q (sym c.in_ok-from_slice.ensures.items)
    (whole_rows c.args.doc.now c.args.site p rect new (repeated (rect.w * rect.h) pixel) (sym c.if-is_whole.ensures)
    (subst P c.requires.pixel (pixel_rows rect.w rect.h pixel)))
