use Rattle.spec_history.proofs.CallsHaveEdits.{calls_have_edits, calls_are_short}
use Rattle.spec_history.proofs.calls_have_edits.Goals as goal

pub returns : goal.returns
returns c = record { edits = calls_have_edits; groups = calls_are_short }
