use Rattle.spec_command.specs.Ends.{bad_line, flat_refused, refused}
use Rattle.xl_outcome.proofs.StopLines.{text_written}
use Rattle.xl_outcome.proofs.stop_lines.write_stop.Goals as goal

pub returns-in-BadLine : goal.returns-in-BadLine
returns-in-BadLine g c =
    rw c.in-BadLine.is (text_written g.K.Sink.held g.K.Sink.faults c.bad_line_text.result (bad_line c.in-BadLine.bad.line) _ _ _
    c.bad_line_text.ensures c.write_text.ensures)

pub returns-in-Refused : goal.returns-in-Refused
returns-in-Refused g c =
    rw c.in-Refused.is (text_written g.K.Sink.held g.K.Sink.faults c.refusal_text.result (refused c.in-Refused.refused) _ _ _
    c.refusal_text.ensures c.write_text-in-Refused.ensures)

pub returns-in-NotFlattened : goal.returns-in-NotFlattened
returns-in-NotFlattened g c =
    rw c.in-NotFlattened.is (text_written g.K.Sink.held g.K.Sink.faults c.flat_refusal_text.result (flat_refused c.in-NotFlattened.why)
    _ _ _ c.flat_refusal_text.ensures c.write_text-in-NotFlattened.ensures)
