-- The picture of a tile is a tile of the layer.
use Rattle.std.proofs.Common.{◌∙◌, ap}
use Rattle.std.proofs.lemmas.Result.{IfOk-weaker}
use Rattle.spec_document.specs.Greys.{pixels_of_base}
use Rattle.xl_flat.proofs.LayerTiles.{layer_tile}
use Rattle.xl_flat.proofs.tiles.layer_bytes.Goals as goal

pub returns-clause-bytes : goal.returns-clause-bytes
returns-clause-bytes g c =
    let d = c.args.doc.now in
    IfOk-weaker c.pixels_of_base.result _ _
    (λ own e. e ∙ (ap (λ d. pixels_of_base d.base c.in_ok-rgba.rgba.items) c.doc.view_is
    ∙ (ap (pixels_of_base d.base) c.in_ok-rgba.ensures.picture ∙ layer_tile d c.args.at))) c.pixels_of_base.ensures
