-- What is so of a session's seat whatever the session does.
use Rattle.std.specs.Prelude.{◌<◌, ℕ}
use Rattle.spec_seats.specs.Made.{IsOf}
use Rattle.xl_studio.specs.declared.moment.Moment.{Moment}
use Rattle.xl_studio.specs.declared.seat.Seat.{Seat}
use Rattle.xl_studio.specs.declared.seat.Studio.{Studio}
use Rattle.xl_studio.specs.Answered.{SeatGoesOn}
use Rattle.xl_studio.specs.Moments.{entries_in}
use Rattle.xl_studio.specs.Seats.{front_of, made_of, IsSeatOf}
use Rattle.xl_studio.specs.State.{State}
use Rattle.xl_turn.specs.declared.view.Chronicle.{Ghosts}

-- it goes on as the seat that it was, and the entries that it has made are the session's, with each save ended
pub record KeepsSeat {K : Type 0} {C : Ghosts (State K) (Moment K)} (studio : Studio K) (session : ℕ) (old new : Seat K C)
    : Type 0 where
  pub goes_on : SeatGoesOn studio old new
  pub of : IsOf session (made_of new) (entries_in (front_of new))

-- a session with a seat of the studio, whose entries are the session's, with each save ended
pub record CanGoOn {K : Type 0} {C : Ghosts (State K) (Moment K)} (studio : Studio K) (session : ℕ) (seat : Seat K C) : Type 0 where
  pub below : session < 8
  pub seated : IsSeatOf studio seat
  pub of : IsOf session (made_of seat) (entries_in (front_of seat))
