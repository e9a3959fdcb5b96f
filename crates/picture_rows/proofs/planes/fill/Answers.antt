use Rattle.std.proofs.Common.{◌*◌, ◌∙◌, ap, sym}
use Rattle.xl_tiles.proofs.FilledTiles.{length_repeated}
use Rattle.picture_rows.proofs.planes.fill.Goals as goal

pub fill_rect-requires-clause-bytes : goal.fill_rect-requires-clause-bytes
fill_rect-requires-clause-bytes c =
    length_repeated (c.args.rect.w * c.args.rect.h) _ ∙ ap (λ n. c.args.rect.w * c.args.rect.h * n) (sym c.requires.bpp)
