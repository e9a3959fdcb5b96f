use Rattle.xl_report.proofs.Chains.{tile_is}
use Rattle.xl_report.proofs.made_lines.tile.Goals as goal

pub returns : goal.returns
returns c = tile_is c.args.draws.now _ _ _ _ c.draw-col.ensures.value c.draw-row.ensures.value
