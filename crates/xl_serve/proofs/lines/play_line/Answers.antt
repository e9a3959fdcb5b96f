use Rattle.xl_serve.proofs.Playing.{forget_played}
use Rattle.xl_serve.proofs.lines.play_line.Goals as goal

pub returns-in-Forget-clause-played : goal.returns-in-Forget-clause-played
returns-in-Forget-clause-played g c =
    rw c.in-Forget.is
    (forget_played c.args.core.now.history c.args.session c.in-Forget.slot c.args.seen.now _ _ c.new.result.items c.forget.ensures
    c.new.ensures.items)
