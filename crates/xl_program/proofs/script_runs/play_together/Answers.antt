use Rattle.xl_script.specs.Lines.{lists_of}
use Rattle.xl_commands.proofs.ScriptPlayed.{played_on, told_together}
use Rattle.xl_program.proofs.script_runs.play_together.Goals as goal

pub returns : goal.returns
returns g c =
    let see = g.D.Shelf.shelf_state in
    let played = c.play_beside-core.ensures in
    let new = c.play_beside-core.result.core in
    played_on see c.args.core new c.into_shelf.result (lists_of c.args.script) _ c.args.workers c.replies_of.result played.base
    played.opening played.legal c.know_versions.ensures c.into_shelf.ensures.right played.front
    (told_together c.args.core.history.base (lists_of c.args.script) _ c.args.workers new.history.entries
    c.play_beside-core.result.text c.replies_of.result c.requires.together played.text
    c.replies_of.ensures.text c.replies_of.ensures.failed)
