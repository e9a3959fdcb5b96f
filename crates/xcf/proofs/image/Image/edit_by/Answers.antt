use Rattle.std.proofs.Common.{arith}
use Rattle.xl_calls.specs.Edits.{edits_of}
use Rattle.xcf.proofs.Plain.{few, no_tables}
use Rattle.xcf.proofs.image.Image.edit_by.Goals as goal

pub try_group-requires-clause-few : goal.try_group-requires-clause-few
try_group-requires-clause-few c = few c.args.edits.now c.in_ok-check_group.ensures.checked

pub try_group-requires-clause-ids : goal.try_group-requires-clause-ids
try_group-requires-clause-ids c =
    let most = few c.args.edits.now c.in_ok-check_group.ensures.checked in
    let left = c.if-self.false in
    record { is = c.self.invariant; room = omega (arith, most, left) }

pub try_group-requires-clause-tables : goal.try_group-requires-clause-tables
try_group-requires-clause-tables c =
    no_tables (edits_of c.args.edits.now) c.new-tables.result c.in_ok-check_group.ensures.checked c.new-tables.ensures
