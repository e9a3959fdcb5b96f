-- One uniform row is weighed again and again.
use Rattle.std.proofs.Common.{ℕ, List, sym, subst}
use Rattle.std.specs.Prelude.{slice_index}
use Rattle.std.proofs.lemmas.Result.{IfOk-weaker}
use Rattle.xl_tiles.specs.Repeated.{IsRepeated}
use Rattle.xl_paint.specs.Filling.{in_rows}
use Rattle.xl_paint.proofs.FilledRows.{mixed_rows, one_row, one_row_is}
use Rattle.xl_paint.proofs.filling.weighed_fill.Goals as goal

pub weigh_bytes-requires-clause-new : goal.weigh_bytes-requires-clause-new
weigh_bytes-requires-clause-new c =
    let P : List ℕ → Type 0 = IsRepeated c.args.pixel.now c.args.rect.w in
    one_row c.args.rect.w c.args.rect.h c.args.plane.now.bpp c.args.pixel.now c.deref.result.now c.requires.pixel
    (subst P (sym c.deref.ensures.value) c.in_ok-row.ensures)

pub returns : goal.returns
returns c =
    let rect = c.args.rect in
    let pixel = c.args.pixel.now in
    let p = c.args.plane.now in
    let row = c.deref.result.now in
    let new : ℕ → ℕ → ℕ → ℕ = λ column y b. slice_index pixel b in
    let P : List ℕ → Type 0 = IsRepeated pixel rect.w in
    let across : IsRepeated pixel rect.w row = subst P (sym c.deref.ensures.value) c.in_ok-row.ensures in
    IfOk-weaker c.weigh_bytes.result _ _
    (λ v rows. mixed_rows c.args.doc.now c.args.site p rect (in_rows 0 p.bpp row) new v.items
    (λ column y b hx hy hb. one_row_is rect.w p.bpp pixel row c.requires.pixel across column y b hx hb) rows)
    c.weigh_bytes.ensures
