use Rattle.std.proofs.Common.{◌∙◌, ap}
use Rattle.spec_document.specs.Grid.{tile_rect}
use Rattle.xcf.proofs.Tiles.{is_of_rect, rect_has_pixels}
use Rattle.xcf.proofs.tile_picture.Picture.of.Goals as goal

pub invariant_of-result : goal.invariant_of-result
invariant_of-result c =
    rect_has_pixels c.args.document.now c.args.stack.0 c.args.at c.tile_rect-rect.result c.args.tile c.requires.on_grid
    (c.tile_rect-rect.ensures ∙ ap (λ d. tile_rect d.width d.height c.args.at) c.document.view_is) c.requires.bytes

pub returns : goal.returns
returns c =
    is_of_rect c.args.document.now c.args.stack.0 c.args.at c.tile_rect-rect.result c.args.tile
    (c.tile_rect-rect.ensures ∙ ap (λ d. tile_rect d.width d.height c.args.at) c.document.view_is) c.requires.bytes
