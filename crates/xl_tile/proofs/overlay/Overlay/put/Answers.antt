use Rattle.std.proofs.Common.{◌∙◌}
use Rattle.xl_tile.proofs.Overlays.{overlaid_is}
use Rattle.xl_tile.proofs.overlay.Overlay.put.Goals as goal

pub returns : goal.returns
returns c =
    overlaid_is c.args.self c.args.buffer.now c.args.tile.now c.copy_block.new.out (c.copy_block.ensures.size ∙ c.requires.size_is)
    c.copy_block.ensures.each
