use Rattle.std.proofs.Common.{◌∙◌, ap}
use Rattle.xl_audit.specs.Auditing.{padded}
use Rattle.xl_audit.proofs.Desks.{few_desks}
use Rattle.xl_audit.proofs.verdict.session_desks.Goals as goal

pub add_desks-requires : goal.add_desks-requires
add_desks-requires g c =
    few_desks (λ b. (goal.PointFilter-dyn g b).state b.1) c.in_ok-desks.desks.items c.args.chests.items c.in_ok-desks.ensures c.requires

pub returns : goal.returns
returns g c = c.in_ok-add_desks.ensures ∙ ap padded c.in_ok-desks.ensures
