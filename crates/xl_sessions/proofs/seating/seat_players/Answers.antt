use Rattle.std.proofs.Common.{refl, ap, ◌∙◌, length, arith}
use Rattle.std.proofs.lemmas.List.{nil_from_length}
use Rattle.xl_sessions.proofs.Seated.{seating_none, seating_weight, seating_more, all_seated, all_lighter}
use Rattle.xl_sessions.proofs.seating.seat_players.Goals as goal

pub loop-part-init : goal.loop-part-init
loop-part-init g c = (
  seating_none c.args.studio.now c.args.own.now c.args.parts.items c.into_iter-part-iterator.result.rest.items
      c.args.players.now.items c.into_iter-part-iterator.ensures.into_iter_gives.0 c.requires.none c.requires.own,
  refl,
)

pub split-seat-requires-clause-weight : goal.split-seat-requires-clause-weight
split-seat-requires-clause-weight g c κs within = seating_weight c.in-Some.part c.next.new.self.rest.items c.loop-part.invariant.0
    c.in-Some.ensures.steps.0 c.requires.weight

pub push_reserved-requires : goal.push_reserved-requires
push_reserved-requires g c =
    let many = c.loop-part.invariant.0.count in
    let one = ap length c.in-Some.ensures.steps.0 in
    let room = c.loop-part.invariant.1 in
    let enough = c.requires.capacity in
    omega (arith, many, one, room, enough, c.loop-part.players.ok.0)

pub loop-part-preserved : goal.loop-part-preserved
loop-part-preserved g c = (
  seating_more c.in-Some.part c.next.new.self.rest.items c.loop-part.invariant.0 c.in-Some.ensures.steps.0 c.split-seat.new.seat _
      c.push_reserved.new.self.items c.push_reserved.ensures.items
      c.split-seat.ensures.old c.split-seat.ensures.stays c.split-seat.ensures.job c.split-seat.ensures.lighter refl c.split-seat.ensures.new
      c.split-seat.ensures.front c.split-seat.ensures.made c.split-seat.ensures.weight c.split-seat.ensures.free c.new.ensures.items,
  c.push_reserved.ensures.capacity ∙ c.loop-part.invariant.1,
)

pub returns-clause-lighter : goal.returns-clause-lighter
returns-clause-lighter g c = all_lighter c.loop-part.invariant.0
    (nil_from_length _ (omega (arith, c.in-None.ensures.steps.0, c.loop-part.part-iterator.rest.ok)))

pub returns-clause-seated : goal.returns-clause-seated
returns-clause-seated g c = all_seated c.loop-part.invariant.0
    (nil_from_length _ (omega (arith, c.in-None.ensures.steps.0, c.loop-part.part-iterator.rest.ok)))

pub returns-clause-job : goal.returns-clause-job
returns-clause-job g c = c.loop-part.invariant.0.job
