use Rattle.xl_studio.specs.Seats.{base_of, opening_shelf, known_by}
use Rattle.xl_studio.proofs.Answered.{goes_on_then}
use Rattle.xl_studio.proofs.FirstHold.{after_wait}
use Rattle.xl_studio.proofs.seat.Studio.begin_when_in.Goals as goal

pub returns-in_default : goal.returns-in_default
returns-in_default g c =
    let i = c.loop.invariant in
    record {
      goes_on = goes_on_then c.args.self.now c.args.seat.now c.loop.seat c.begin.new.seat i.2 c.begin.ensures.goes_on;
      begun = after_wait g.D.Shelf.shelf_state
          (opening_shelf c.args.self.now) (base_of c.args.self.now) c.args.session
          c.in_ok-begun.begun (known_by c.args.seat.now) (known_by c.loop.seat)
          (known_by c.begin.new.seat) i.3 c.in_default.not-Out c.in_ok-begun.ensures.begun;
      failed = tt;
    }
