use Rattle.core_rows.proofs.ShownTwice.{bytes_are}
use Rattle.core_rows.proofs.twice.look_again.Goals as goal

pub returns-clause-bytes : goal.returns-clause-bytes
returns-clause-bytes g c =
    bytes_are c.args.core.now.history c.args.node.0 c.args.at c.args.viewer.now c.window.new.self _ c.window.new.out.items
    c.window.result _ c.in_ok-window.was c.window.ensures.answered
