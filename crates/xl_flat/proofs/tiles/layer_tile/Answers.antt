-- The tile has as many bytes as it has.
use Rattle.std.proofs.Common.{◌≡◌, ◌*◌, ap, ◌∙◌, length}
use Rattle.spec_document.specs.Document.{bytes_of_kind, picture_kind}
use Rattle.spec_flat.specs.Flattened.{flat_layer}
use Rattle.xl_compose.specs.Cost.{tile_points}
use Rattle.xl_tiles.proofs.Tables.{length_of_tile}
use Rattle.xl_flat.proofs.tiles.layer_tile.Goals as goal

pub shared_or_own-requires-clause-full : goal.shared_or_own-requires-clause-full
shared_or_own-requires-clause-full g c =
    let d = c.args.doc.now in
    let size : length c.in_ok-bytes.bytes.items ≡ tile_points d c.args.at * bytes_of_kind (picture_kind d.base) =
    ap length c.in_ok-bytes.ensures.bytes ∙ length_of_tile (flat_layer d).plane c.args.at.col c.args.at.row in
    rw (c.points_of-n.ensures.value, c.layer_bpp-bpp.ensures.value) size
