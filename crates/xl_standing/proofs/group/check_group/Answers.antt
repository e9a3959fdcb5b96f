-- What is refused, or is not, with some tables is so with any.
use Rattle.std.proofs.Common.{[]}
use Rattle.xl_edit.specs.Applied.{at}
use Rattle.xl_calls.specs.Edits.{edits_of}
use Rattle.spec_standing.proofs.Allowed.{accepted_same}
use Rattle.xl_standing.proofs.Making.{refusal_same}
use Rattle.xl_standing.proofs.group.check_group.Goals as goal

pub returns-in-Err-clause-refused : goal.returns-in-Err-clause-refused
returns-in-Err-clause-refused c =
    refusal_same (at c.args.document.now c.args.next_id)
    (edits_of c.args.edits.now) c.args.tables [] c.in-Err.refused c.in-Err.ensures.refused

pub returns-clause-allowed : goal.returns-clause-allowed
returns-clause-allowed c = λ others.
    accepted_same (at c.args.document.now c.args.next_id) _ (edits_of c.args.edits.now) c.args.tables others c.in-Ok.ensures.made
