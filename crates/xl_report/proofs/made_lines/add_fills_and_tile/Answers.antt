use Rattle.spec_generated.specs.Generated.{fills_and_tile}
use Rattle.xl_script.specs.Lines.{line_of, lines_of}
use Rattle.xl_report.proofs.Chains.{tile_last}
use Rattle.xl_report.proofs.MadeLines.{line_more}
use Rattle.xl_report.proofs.Repeats.{same_added}
use Rattle.xl_report.proofs.made_lines.add_fills_and_tile.Goals as goal

pub returns : goal.returns
returns c =
    same_added (fills_and_tile c.args.layer) c.args.draws.now c.tile-shown.new.draws (lines_of c.args.lines.now) _ _
    (line_more c.add_fills.new.lines c.push.new.self c.tile-shown.result c.in_ok-push.ensures.ok)
    (tile_last c.args.layer c.args.draws.now c.add_fills.new.draws c.tile-shown.new.draws (lines_of c.args.lines.now)
    (lines_of c.add_fills.new.lines) (line_of c.tile-shown.result)
    c.in_ok-add_fills.ensures c.tile-shown.ensures)
