use Rattle.std.proofs.lemmas.Result.{IfOk-weaker}
use Rattle.xl_paint.specs.Paint.{spread_over}
use Rattle.xl_paint.proofs.PaintMade.{flat_painted}
use Rattle.xl_paint.proofs.filling.bytes_after_flat_fill.Goals as goal

pub returns : goal.returns
returns c =
    IfOk-weaker c.bytes_after_fill.result _ _
    (λ v rows. flat_painted c.args.doc.now c.args.site c.args.plane.now c.args.rect c.args.value (spread_over c.args.rect v.spread v.given.items) c.requires.bpp
    c.requires.within rows)
    c.bytes_after_fill.ensures
