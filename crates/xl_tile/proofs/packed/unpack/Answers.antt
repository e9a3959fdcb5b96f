use Rattle.std.proofs.Common.{◌∙◌}
use Rattle.xl_tile.proofs.JoinedBlocks.{all_pixels}
use Rattle.xl_tile.proofs.packed.unpack.Goals as goal

pub returns-clause-value : goal.returns-clause-value
returns-clause-value c =
    all_pixels _ _ _ c.join_pixels.new.pixels (c.join_pixels.auto.pixels ∙ c.requires.out) c.join_pixels.ensures
    ∙ c.unpack_planes.ensures
