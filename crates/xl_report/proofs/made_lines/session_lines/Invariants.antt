use Rattle.std.proofs.Common.{◌≡◌}
use Rattle.spec_generated.specs.Draws.{times}
use Rattle.spec_generated.specs.Generated.{fills_and_tile}
use Rattle.xl_script.specs.Lines.{lines_of}
use Rattle.xl_report.proofs.Repeats.{joined}
use Rattle.xl_report.proofs.made_lines.session_lines.Given as goal

-- the parts so far
abbrev pub invariant-loop-part : goal.invariant-loop-part
invariant-loop-part l =
    joined (times l._part (fills_and_tile l.layer) l.fn.draws) ≡ record { what = lines_of l.lines; state = l.draws }
