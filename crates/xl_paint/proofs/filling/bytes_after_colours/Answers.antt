-- What goes through the selection has the old alpha already.
use Rattle.std.proofs.lemmas.Result.{IfOk-weaker}
use Rattle.std.proofs.Common.{true, ◌*◌}
use Rattle.xl_paint.specs.Filling.{but_alpha_in, in_rows}
use Rattle.xl_paint.proofs.FilledRows.{mixed_rows}
use Rattle.xl_paint.proofs.PaintMade.{rows_size}
use Rattle.xl_paint.proofs.filling.bytes_after_colours.Goals as goal

pub bytes_after_own_write-requires-clause-new : goal.bytes_after_own_write-requires-clause-new
bytes_after_own_write-requires-clause-new c =
    let rect = c.args.rect in
    rows_size rect.w rect.h c.args.plane.now.bpp _ c.in_ok-kept.kept.items c.in_ok-kept.ensures

pub returns : goal.returns
returns c =
    let rect = c.args.rect in
    let p = c.args.plane.now in
    let n = p.bpp in
    let kept = c.in_ok-kept.kept.items in
    IfOk-weaker c.bytes_after_own_write.result _ _
    (λ v rows. mixed_rows c.args.doc.now c.args.site p rect (in_rows (rect.w * n) n kept)
    (but_alpha_in true p rect (in_rows (rect.w * n) n c.args.new.items)) v.items c.in_ok-kept.ensures.each rows)
    c.bytes_after_own_write.ensures
