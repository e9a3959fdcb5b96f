use Rattle.std.proofs.Common.{arith}
use Rattle.std.proofs.lemmas.List.{nil_from_length}
use Rattle.xl_audit.proofs.Desks.{chests_begin, chests_more, chests_all}
use Rattle.xl_audit.proofs.verdict.desks_of.Goals as goal

pub loop-chest-init : goal.loop-chest-init
loop-chest-init g c =
    chests_begin (λ b. (goal.PointFilter-dyn g b).state b.1) c.new-desks.result.items c.into_iter-chest-iterator.result.rest.items
    c.args.chests.items c.new-desks.ensures.items c.into_iter-chest-iterator.ensures.into_iter_gives.0

pub loop-chest-preserved : goal.loop-chest-preserved
loop-chest-preserved g c =
    chests_more (λ b. (goal.PointFilter-dyn g b).state b.1) c.loop-chest.desks.items c.push.new.self.items
    c.loop-chest.chest-iterator.rest.items c.next.new.self.rest.items c.args.chests.items _ c.in-Some.chest c.loop-chest.invariant
    c.in-Some.ensures.steps.0 c.in_ok-push.ensures.items c.in_ok-desk_of.ensures

pub returns : goal.returns
returns g c =
    chests_all (λ b. (goal.PointFilter-dyn g b).state b.1) c.loop-chest.desks.items c.loop-chest.chest-iterator.rest.items
    c.args.chests.items c.loop-chest.invariant
    (nil_from_length _ (omega (arith, c.in-None.ensures.steps.0, c.loop-chest.chest-iterator.rest.ok)))
