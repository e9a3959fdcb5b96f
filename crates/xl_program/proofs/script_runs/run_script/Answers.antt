use Rattle.std.proofs.Common.{ap}
use Rattle.xl_script.specs.Lines.{lists_of}
use Rattle.xl_commands.proofs.ScriptPlayed.{nothing_played, same_played, without_workers}
use Rattle.xl_program.proofs.script_runs.run_script.Goals as goal

pub returns-in-Err : goal.returns-in-Err
returns-in-Err g c =
    let see = g.D.Shelf.shelf_state in
    nothing_played (see c.args.shelf) _ c.args.document (lists_of c.args.script) _ c.args.workers record {}
    (ap see c.in-Err.ensures.back) c.requires.limits

pub play_alone-requires-clause-first : goal.play_alone-requires-clause-first
play_alone-requires-clause-first g c κs within = (c.is_alone.ensures.alone c.if-is_alone.true).1

pub returns-then-is_alone : goal.returns-then-is_alone
returns-then-is_alone g c =
    let see = g.D.Shelf.shelf_state in
    let core = c.in-Ok.core in
    without_workers (see c.args.shelf) (see c.play_alone.result.shelf) c.args.document (lists_of c.args.script) _ c.args.workers
    c.play_alone.result.replies (c.is_alone.ensures.alone c.if-is_alone.true).0
    (same_played (see c.args.shelf) (see core.opening) (see c.play_alone.result.shelf) c.args.document core.history.base
    (lists_of c.args.script) (lists_of c.know_eight-script.result) _ 0
    c.play_alone.result.replies (ap see c.in-Ok.ensures.opening) c.in-Ok.ensures.base c.know_eight-script.ensures.same
    c.play_alone.ensures)

pub returns : goal.returns
returns g c =
    let see = g.D.Shelf.shelf_state in
    let core = c.in-Ok.core in
    same_played (see c.args.shelf) (see core.opening) (see c.play_together.result.shelf) c.args.document core.history.base
    (lists_of c.args.script) (lists_of c.know_eight-script.result) _ c.args.workers
    c.play_together.result.replies (ap see c.in-Ok.ensures.opening) c.in-Ok.ensures.base c.know_eight-script.ensures.same
    c.play_together.ensures
