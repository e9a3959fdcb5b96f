use Rattle.std.proofs.Common.{sym, ◌∙◌}
use Rattle.core_rows.proofs.ShownTwice.{all_kept, bytes_are}
use Rattle.core_rows.proofs.twice.look_twice.Goals as goal

pub look_again-requires-clause-kept : goal.look_again-requires-clause-kept
look_again-requires-clause-kept g c κs within =
    all_kept c.args.core.now.history c.args.node.0 c.args.at _ c.window.new.self _ c.window.new.out.items c.window.result _
    c.window_is_kept.ensures c.in_ok-window.was c.window.ensures.answered

pub returns-clause-same : goal.returns-clause-same
returns-clause-same g c =
    c.in_ok-again.ensures.bytes
    ∙ sym (bytes_are c.args.core.now.history c.args.node.0 c.args.at _ c.window.new.self _ c.window.new.out.items c.window.result _
    c.in_ok-window.was c.window.ensures.answered)
