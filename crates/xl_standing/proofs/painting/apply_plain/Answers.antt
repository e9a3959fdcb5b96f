-- It takes no table and no id.
use Rattle.xl_calls.specs.Edits.{edit_of}
use Rattle.xl_edit.specs.Applied.{at}
use Rattle.xl_standing.proofs.Alone.{applied_alone, made_alone}
use Rattle.xl_standing.proofs.painting.apply_plain.Goals as goal

pub returns-in-Ok-clause-applied : goal.returns-in-Ok-clause-applied
returns-in-Ok-clause-applied c =
    applied_alone (at c.args.document.now c.args.next_id) c.apply.new.doc c.apply.new.next_id (edit_of c.args.edit.now) _
    c.requires.plain c.requires.keeps c.in-Ok.ensures

pub returns-in-Ok-clause-made : goal.returns-in-Ok-clause-made
returns-in-Ok-clause-made c =
    made_alone (at c.args.document.now c.args.next_id) c.apply.new.doc c.apply.new.next_id (edit_of c.args.edit.now) _
    c.requires.plain c.in-Ok.ensures
