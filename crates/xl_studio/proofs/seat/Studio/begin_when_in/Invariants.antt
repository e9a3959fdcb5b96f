use Rattle.xl_studio.specs.Answered.{SeatGoesOn}
use Rattle.xl_studio.specs.Calling.{HasHeard}
use Rattle.xl_studio.specs.Seats.{known_by}
use Rattle.xl_studio.proofs.seat.Studio.begin_when_in.Given as goal

abbrev pub invariant-loop : goal.invariant-loop
invariant-loop g l =
    (goal.iterator-loop g).can_next l.iterator' × (goal.iterator-loop g).is_finite l.iterator'
    × SeatGoesOn l.self l.initial.seat l.seat × HasHeard (known_by l.initial.seat) (known_by l.seat)
