use Rattle.std.proofs.Common.{◌≡◌, length}
use Rattle.spec_document.specs.Rect.{count_from}
use Rattle.spec_generated.specs.Draws.{for_each}
use Rattle.spec_generated.specs.Generated.{session_lines}
use Rattle.xl_script.specs.Lines.{lists_of}
use Rattle.xl_report.specs.Drawing.{IsDrawn}
use Rattle.xl_report.proofs.made_lines.script.Given as goal

-- the sessions so far
abbrev pub invariant-loop-session : goal.invariant-loop-session
invariant-loop-session l = record {
  drawn : IsDrawn (for_each (count_from 0 l.session) session_lines) l.fn.draws (lists_of l.lists.items) l.draws;
  many : length l.lists.items ≡ l.session;
}
