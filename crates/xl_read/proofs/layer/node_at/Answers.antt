use Rattle.std.proofs.Common.{rules, ◌∙◌}
use Rattle.xl_read.proofs.Branches.{node_placed}
use Rattle.xl_read.proofs.layer.node_at.Goals as goal

pub returns-clause-read : goal.returns-clause-read
returns-clause-read g c =
    node_placed c.args.file.now c.args.at c.args.draft.now c.place.new.self c.in_ok-head.head c.parent.result.now
    c.in_ok-path.node c.in_ok-body.body (search rules) (search rules) (search rules) c.place.ensures.placed
    (c.parent.ensures ∙ c.in_ok-path.ensures.path) c.in_ok-path.ensures.node
