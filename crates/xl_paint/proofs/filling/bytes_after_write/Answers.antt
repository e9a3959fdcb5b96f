-- There are as many rows as the rectangle has.
use Rattle.std.proofs.Common.{ℕ, ◌*◌, sym, subst}
use Rattle.xl_paint.specs.Filling.{HasRows}
use Rattle.xl_paint.proofs.FilledRows.{given_rows}
use Rattle.xl_paint.proofs.filling.bytes_after_write.Goals as goal

pub weigh_bytes-requires-clause-new : goal.weigh_bytes-requires-clause-new
weigh_bytes-requires-clause-new c =
    let n = c.args.plane.now.bpp in
    let P : ℕ → Type 0 = λ m. HasRows c.args.rect.w c.args.rect.h n (c.args.rect.w * m) c.args.new.now in
    subst P (sym c.bpp.ensures.value) (given_rows c.args.rect.w c.args.rect.h n c.args.new.now c.requires.new)
