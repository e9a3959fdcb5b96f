use Rattle.std.proofs.Common.{◌∙◌, List, ℕ, subst}
use Rattle.std.proofs.lemmas.Option.{IfSome_then}
use Rattle.std.proofs.lemmas.Result.{IfOk-weaker}
use Rattle.xl_tile.specs.Coded.{IsCoded}
use Rattle.xl_tiles.specs.Table.{plane_by, tile}
use Rattle.xl_tiles.proofs.CodedTiles.{coded_tile}
use Rattle.xl_tiles.proofs.Tables.{tile_is}
use Rattle.xl_tiles.proofs.codes.tile_codes.Goals as goal

pub returns : goal.returns
returns c =
    let s = c.args.sheet in
    let same = tile_is s.width s.height s.bpp c.args.tiles.now c.requires.tiled c.args.col c.args.row c.requires.column c.requires.row in
    IfOk-weaker c.codes.result _ _ (λ found have. IfSome_then found have (λ codes is.
    coded_tile (plane_by s.width s.height s.bpp c.args.tiles.now) (tile c.args.col c.args.row) c.tile_pixels-n.result codes
    c.tile_pixels-n.ensures.value
    (subst (λ (bytes : List ℕ). IsCoded bytes c.tile_pixels-n.result s.bpp codes) (c.tile_in.ensures.value ∙ same) is)))
    c.codes.ensures
