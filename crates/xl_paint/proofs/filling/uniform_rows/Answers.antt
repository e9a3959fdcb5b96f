use Rattle.std.proofs.lemmas.Result.{IfOk-weaker}
use Rattle.xl_paint.proofs.FilledRows.{uniform_are_rows}
use Rattle.xl_paint.proofs.filling.uniform_rows.Goals as goal

pub returns : goal.returns
returns c =
    IfOk-weaker c.repeat-2.result _ _
    (λ v rows. uniform_are_rows c.args.w c.args.h c.args.pixel.now c.in_ok-row.row.items v.items c.in_ok-row.ensures
    (rw c.deref.ensures.value at rows))
    c.repeat-2.ensures
