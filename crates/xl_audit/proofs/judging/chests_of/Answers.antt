use Rattle.std.proofs.Common.{arith}
use Rattle.std.proofs.lemmas.List.{nil_from_length}
use Rattle.xl_audit.proofs.Chests.{boxes_begin, boxes_short, boxes_more, boxes_all}
use Rattle.xl_audit.proofs.judging.chests_of.Goals as goal

pub loop-boxes-init : goal.loop-boxes-init
loop-boxes-init g c =
    boxes_begin _ _ _ c.new-chests.result.items c.into_iter-boxes-iterator.result.rest.items c.args.lists.items
    c.new-chests.ensures.items c.into_iter-boxes-iterator.ensures.into_iter_gives.0 c.requires

pub chest_of-requires : goal.chest_of-requires
chest_of-requires g c =
    boxes_short _ _ _ c.loop-boxes.chests.items c.loop-boxes.boxes-iterator.rest.items c.next.new.self.rest.items c.args.lists.items
    c.in-Some.boxes c.loop-boxes.invariant c.in-Some.ensures.steps.0

pub loop-boxes-preserved : goal.loop-boxes-preserved
loop-boxes-preserved g c =
    boxes_more _ _ _ c.loop-boxes.chests.items c.push.new.self.items c.loop-boxes.boxes-iterator.rest.items
    c.next.new.self.rest.items c.args.lists.items c.in-Some.boxes _ c.loop-boxes.invariant c.in-Some.ensures.steps.0
    c.in_ok-push.ensures.items c.in_ok-chest_of.ensures

pub returns : goal.returns
returns g c =
    boxes_all _ _ _ c.loop-boxes.chests.items c.loop-boxes.boxes-iterator.rest.items c.args.lists.items c.loop-boxes.invariant
    (nil_from_length _ (omega (arith, c.in-None.ensures.steps.0, c.loop-boxes.boxes-iterator.rest.ok)))
