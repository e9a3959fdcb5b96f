-- A group of plain edits asks no filter.
use Rattle.std.proofs.Common.{◌≡◌, rules}
use Rattle.std.specs.Prelude.{None}
use Rattle.xcf.specs.Plain.{first_unplain}
use Rattle.xl_calls.specs.Edits.{edits_of}
use Rattle.xcf.proofs.Asking.{are_there}
use Rattle.xcf.proofs.group.check_group.Goals as goal

pub returns-in-None-clause-there : goal.returns-in-None-clause-there
returns-in-None-clause-there c =
    let none : first_unplain (edits_of c.args.edits.now) ≡ None = search rules in
    are_there 0 (edits_of c.args.edits.now) none
