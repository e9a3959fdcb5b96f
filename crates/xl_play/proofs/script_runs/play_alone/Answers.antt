use Rattle.xl_script.specs.Lines.{lists_of}
use Rattle.xl_play.proofs.ScriptPlayed.{played_on}
use Rattle.xl_play.proofs.script_runs.play_alone.Goals as goal

pub play-replies-requires-clause-opened : goal.play-replies-requires-clause-opened
play-replies-requires-clause-opened g c κs within =
    let given = c.requires in
    record { fresh = given.fresh; kept = given.kept; inside = given.inside; selected = given.selected }

pub play-replies-requires-clause-script : goal.play-replies-requires-clause-script
play-replies-requires-clause-script g c κs within =
    let given = c.requires in record { first = given.first; boxes = given.boxes; fits = given.fits }

pub returns : goal.returns
returns g c =
    let see = g.D.Shelf.shelf_state in
    let played = c.play-replies.ensures in
    played_on see c.args.core c.play-replies.new.core c.into_shelf.result (lists_of c.args.script) _ 0 c.play-replies.result
    played.between.base_is played.between.opening_is played.between.legal c.know_versions.ensures c.into_shelf.ensures.right
    played.front played.told
