-- A session's seat, from before its calls to behind them.
use Rattle.std.proofs.Common.{ℕ}
use Rattle.spec_seats.specs.Made.{IsOf}
use Rattle.xl_studio.specs.declared.moment.Moment.{Moment}
use Rattle.xl_studio.specs.declared.seat.Seat.{Seat}
use Rattle.xl_studio.specs.declared.seat.Studio.{Studio}
use Rattle.xl_studio.specs.Moments.{entries_in}
use Rattle.xl_studio.specs.Seats.{front_of, made_of, IsSeatOf}
use Rattle.xl_studio.specs.State.{State}
use Rattle.xl_studio.proofs.Answered.{goes_on_same, goes_on_then}
use Rattle.xl_turn.specs.declared.view.Chronicle.{Ghosts}
use Rattle.xl_sessions.specs.Keeping.{KeepsSeat}

module _ {K : Type 0} {C : Ghosts (State K) (Moment K)} (studio : Studio K) (session : ℕ) where
  pub keeps_same : (seat : Seat K C) → IsSeatOf studio seat → IsOf session (made_of seat) (entries_in (front_of seat))
      → KeepsSeat studio session seat seat
  keeps_same seat of_studio of = record { goes_on = goes_on_same studio seat of_studio; of = of }

  pub keeps_on : (old mid new : Seat K C) → KeepsSeat studio session old mid → KeepsSeat studio session mid new
      → KeepsSeat studio session old new
  keeps_on old mid new first then =
      record { goes_on = goes_on_then studio old mid new first.goes_on then.goes_on; of = then.of }
