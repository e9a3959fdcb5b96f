-- One more edit is plain.
use Rattle.std.proofs.Common.{◌≡◌, ◌<◌, true, length, rules}
use Rattle.xl_calls.specs.Edits.{edit_of}
use Rattle.xcf.specs.Plain.{is_plain}
use Rattle.xcf.proofs.Checking.{goes_by}
use Rattle.xcf.proofs.group.first_unplain.Goals as goal

pub loop-index-preserved : goal.loop-index-preserved
loop-index-preserved c =
    let inside : c.loop-index.index < length c.args.edits.now = search rules in
    let plain : is_plain (edit_of c.index-edits-index.result) ≡ true = search rules in
    goes_by c.args.edits.now c.loop-index.index c.index-edits-index.result c.loop-index.invariant inside
    c.index-edits-index.is plain c.know_edit.ensures
