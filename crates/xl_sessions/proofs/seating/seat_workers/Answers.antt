use Rattle.std.proofs.Common.{ap, ◌∙◌, length, length-append, arith, [], ◌∷◌}
use Rattle.xl_sessions.proofs.Seated.{one_more_free, one_more_numbered}
use Rattle.xl_sessions.proofs.seating.seat_workers.Goals as goal

pub loop-at-preserved : goal.loop-at-preserved
loop-at-preserved g c =
    let lighter = c.split-seat.ensures.lighter in
    let was = c.loop-at.invariant.2 in
    let many = c.loop-at.invariant.5 in
    let grown = ap length c.push_reserved.ensures.items ∙ length-append c.loop-at.workers.items (_ ∷ []) in (
      c.split-seat.ensures.old,
      c.split-seat.ensures.stays ∙ c.loop-at.invariant.1,
      omega (arith, lighter, was),
      one_more_free c.args.studio.now c.loop-at.workers.items c.push_reserved.new.self.items _ c.loop-at.invariant.3
          c.push_reserved.ensures.items
          c.split-seat.ensures.new c.split-seat.ensures.made c.split-seat.ensures.weight c.split-seat.ensures.free
          c.split-seat.ensures.closed,
      one_more_numbered c.loop-at.workers.items c.push_reserved.new.self.items _ c.loop-at.invariant.4 c.push_reserved.ensures.items
          (omega (arith, many)),
      omega (arith, grown, many),
      c.push_reserved.ensures.capacity ∙ c.loop-at.invariant.6,
      c.split-seat.ensures.job ∙ c.loop-at.invariant.7,
    )
