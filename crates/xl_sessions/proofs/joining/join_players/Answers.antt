use Rattle.std.proofs.Common.{ap, ◌∙◌, [], ◌∷◌, length, length-append, arith}
use Rattle.std.proofs.lemmas.List.{nil_from_length}
use Rattle.xl_sessions.proofs.JoinedSeats.{joining_none, joining_seat, joining_free, joining_more, joined_made, joined_job}
use Rattle.xl_sessions.proofs.JoinedSeats.{joined_weight}
use Rattle.xl_sessions.proofs.JoinedSeats.{joined_begins, joined_known, joined_shown, joined_first, joined_done}
use Rattle.xl_sessions.proofs.JoinedSeats.{joined_not_full}
use Rattle.xl_sessions.proofs.joining.join_players.Goals as goal

pub loop-player-init : goal.loop-player-init
loop-player-init g c =
    let left = c.into_iter-player-iterator.ensures.into_iter_gives.0 in
    let count = ap length left in
    let none = ap length c.requires.none in
    let room = c.requires.capacity in (
      joining_none c.args.studio.now c.args.own.now c.args.players.items c.into_iter-player-iterator.result.rest.items
          c.args.digests.now.items left c.requires.none c.requires.own c.requires.seats,
      omega (arith, count, none, room),
    )

pub join-requires-clause-other : goal.join-requires-clause-other
join-requires-clause-other g c κs within = joining_seat c.in-Some.player c.next.new.self.rest.items c.loop-player.invariant.0
    c.in-Some.ensures.steps.0

pub join-requires-clause-free : goal.join-requires-clause-free
join-requires-clause-free g c κs within = joining_free c.in-Some.player c.next.new.self.rest.items c.loop-player.invariant.0
    c.in-Some.ensures.steps.0

pub push_reserved-requires : goal.push_reserved-requires
push_reserved-requires g c =
    let one = ap length c.in-Some.ensures.steps.0 in
    let room = c.loop-player.invariant.1 in
    omega (arith, one, room, c.loop-player.digests.ok.0)

pub loop-player-preserved : goal.loop-player-preserved
loop-player-preserved g c =
    let one = ap length c.in-Some.ensures.steps.0 in
    let room = c.loop-player.invariant.1 in
    let grown = ap length c.push_reserved.ensures.items ∙ length-append c.loop-player.digests.items (_ ∷ []) in
    let same = c.push_reserved.ensures.capacity in (
      joining_more c.in-Some.player c.next.new.self.rest.items c.loop-player.invariant.0 c.in-Some.ensures.steps.0 c.join.new.seat
          c.push_reserved.new.self.items _
          c.join.ensures.seat c.join.ensures.job c.join.ensures.made c.join.ensures.weight c.join.ensures.begins c.join.ensures.other
          c.push_reserved.ensures.items c.or-stopped.ensures,
      omega (arith, one, room, grown, same),
    )

pub returns-clause-made : goal.returns-clause-made
returns-clause-made g c = joined_made c.loop-player.invariant.0
    (nil_from_length _ (omega (arith, c.in-None.ensures.steps.0, c.loop-player.player-iterator.rest.ok)))

pub returns-clause-job : goal.returns-clause-job
returns-clause-job g c = joined_job c.loop-player.invariant.0
    (nil_from_length _ (omega (arith, c.in-None.ensures.steps.0, c.loop-player.player-iterator.rest.ok)))

pub returns-clause-weight : goal.returns-clause-weight
returns-clause-weight g c = joined_weight c.loop-player.invariant.0
    (nil_from_length _ (omega (arith, c.in-None.ensures.steps.0, c.loop-player.player-iterator.rest.ok)))

pub returns-clause-begins : goal.returns-clause-begins
returns-clause-begins g c = joined_begins c.loop-player.invariant.0
    (nil_from_length _ (omega (arith, c.in-None.ensures.steps.0, c.loop-player.player-iterator.rest.ok)))

pub returns-clause-known : goal.returns-clause-known
returns-clause-known g c = joined_known c.loop-player.invariant.0
    (nil_from_length _ (omega (arith, c.in-None.ensures.steps.0, c.loop-player.player-iterator.rest.ok)))

pub returns-clause-digests : goal.returns-clause-digests
returns-clause-digests g c = joined_shown c.loop-player.invariant.0
    (nil_from_length _ (omega (arith, c.in-None.ensures.steps.0, c.loop-player.player-iterator.rest.ok)))

pub returns-clause-first : goal.returns-clause-first
returns-clause-first g c = joined_first c.loop-player.invariant.0
    (nil_from_length _ (omega (arith, c.in-None.ensures.steps.0, c.loop-player.player-iterator.rest.ok)))

pub returns-clause-done : goal.returns-clause-done
returns-clause-done g c = joined_done c.loop-player.invariant.0
    (nil_from_length _ (omega (arith, c.in-None.ensures.steps.0, c.loop-player.player-iterator.rest.ok)))

pub returns-clause-not_full : goal.returns-clause-not_full
returns-clause-not_full g c = joined_not_full c.loop-player.invariant.0
    (nil_from_length _ (omega (arith, c.in-None.ensures.steps.0, c.loop-player.player-iterator.rest.ok)))
