use Rattle.std.proofs.Common.{◌∙◌, ap}
use Rattle.xl_judging.specs.Versions.{with_share}
use Rattle.xl_audit.proofs.Begun.{begun}
use Rattle.xl_audit.proofs.beginning.first_walk.Goals as goal

pub returns-clause-come : goal.returns-clause-come
returns-clause-come c =
    begun c.args.base c.new-3.result c.add.new.self c.args.wanted.items c.requires c.new-3.ensures.within c.new-3.ensures.first
    (ap (λ w. w.items) c.in_ok-add.ensures.wanted ∙ ap (λ w. w.items) c.new-versions.ensures.wanted)
    (c.in_ok-add.ensures.shares
    ∙ ((λ i. with_share (c.new-versions.ensures.wanted i).items c.args.base c.new-versions.result.shares.items)
    ∙ ap (with_share c.args.wanted.items c.args.base) c.new-versions.ensures.shares))
