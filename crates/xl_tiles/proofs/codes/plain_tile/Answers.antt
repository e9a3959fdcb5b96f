use Rattle.std.proofs.Common.{◌∙◌}
use Rattle.std.proofs.lemmas.Option.{IfSome_then}
use Rattle.std.proofs.lemmas.Result.{IfOk-weaker}
use Rattle.xl_tiles.proofs.Tables.{tile_is}
use Rattle.xl_tiles.proofs.codes.plain_tile.Goals as goal

pub returns : goal.returns
returns c =
    let s = c.args.sheet in
    let same = tile_is s.width s.height s.bpp c.args.tiles.now c.requires.tiled c.args.col c.args.row c.requires.column
    c.requires.row in
    IfOk-weaker c.plain.result _ _ (λ found have. IfSome_then found have (λ bytes is. is ∙ (c.tile_in.ensures.value ∙ same)))
    c.plain.ensures
