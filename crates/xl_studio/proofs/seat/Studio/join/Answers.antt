use Rattle.std.proofs.Common.{sym, ◌∙◌}
use Rattle.xl_studio.proofs.Joined.{front_joined}
use Rattle.xl_studio.proofs.seat.Studio.join.Goals as goal

pub returns-clause-seat : goal.returns-clause-seat
returns-clause-seat g c =
    let e = c.join.ensures in
    record {
      of = e.seat.0;
      idle = e.seat.1;
      front = front_joined _ _ _ _ _ _ _ _ _ _ _ c.requires.seat.front c.requires.other.front e.begins.0 e.begins.1 e.front
          c.max-seat.ensures (e.seat.0.1 ∙ sym c.requires.seat.of.1);
    }
