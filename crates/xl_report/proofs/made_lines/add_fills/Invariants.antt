use Rattle.spec_generated.specs.Draws.{times}
use Rattle.spec_generated.specs.Generated.{fill}
use Rattle.xl_script.specs.Lines.{lines_of}
use Rattle.xl_report.specs.Drawing.{AddsDrawn}
use Rattle.xl_report.proofs.made_lines.add_fills.Given as goal

-- the fills so far
abbrev pub invariant-loop-fill : goal.invariant-loop-fill
invariant-loop-fill l = AddsDrawn (times l._fill (fill l.layer)) l.fn.draws (lines_of l.fn.lines) (lines_of l.lines) l.draws
