-- What a player has played, by whether all its lines were.
use Rattle.std.proofs.Common.{◌≡◌, ℕ, ◌≤◌, true, false, List, [], length, Option, Some, None, refl, sym, ap, ◌∙◌, subst, true≢false}
use Rattle.std.specs.Prelude.{Result, Ok, Err, OnOk, IfErr, is_ok, is_none, unwrap_or, Vec}
use Rattle.std.specs.Result.{result_err}
use Rattle.std.specs.declared.alloc.Global.{Global}
use Rattle.spec_filters.specs.declared.FilterState.{FilterState}
use Rattle.spec_run.specs.Fronts.{AreBegun}
use Rattle.spec_script.specs.Fits.{AreFit}
use Rattle.spec_seats.specs.Digests.{digests_in}
use Rattle.spec_seats.specs.Made.{IsOf, HasMade}
use Rattle.spec_seats.specs.Picked.{picked}
use Rattle.spec_tables.specs.Agrees.{Agrees}
use Rattle.xl_filters.specs.Chests.{states}
use Rattle.xl_filters.specs.declared.chest.Slot.{Slot}
use Rattle.xl_script.specs.Lines.{lines_of}
use Rattle.xl_script.specs.declared.script.Line.{Line}
use Rattle.xl_sessions.specs.Full.{most_made, IsStoppedAtFull}
use Rattle.xl_sessions.specs.Lines.{own_of}
use Rattle.xl_sessions.specs.Players.{HasPlayed, shown_of}
use Rattle.xl_sessions.specs.declared.players.SessionPart.{SessionPart}
use Rattle.xl_sessions.specs.declared.players.Player.{Player}
use Rattle.xl_run.specs.declared.unplayed.Unplayed.{Unplayed}
use Rattle.xl_run.specs.declared.unplayed.Unplayed.TheVariants.{HistoryFull}
use Rattle.xl_studio.specs.declared.moment.Moment.{Moment}
use Rattle.xl_studio.specs.declared.seat.Seat.{Seat}
use Rattle.xl_studio.specs.declared.seat.Studio.{Studio}
use Rattle.xl_studio.specs.Jobs.{job_out}
use Rattle.xl_studio.specs.Moments.{entries_in}
use Rattle.xl_studio.specs.Seats.{base_of, front_of, known_by, made_of, weight_of, IsSeatOf}
use Rattle.xl_studio.specs.State.{State}
use Rattle.xl_turn.specs.declared.view.Chronicle.{Ghosts}

-- the lines that were taken out of a part
pub lines_fit : (n : ℕ) (lines others : Vec Line Global) → lines ≡ others → AreFit n [] (lines_of others.items)
    → AreFit n [] (lines_of lines.items)
lines_fit n lines others is fit = subst (λ (ls : Vec Line Global). AreFit n [] (lines_of ls.items)) (sym is) fit

-- what is known at Ok, where it was Ok
when_ok : {A E P : Type 0} (result : Result A E) → OnOk result P → is_ok result ≡ true → P
when_ok (Ok a) known ok = known
when_ok (Err e) known ok = absurd (true≢false (sym ok))

-- nothing stopped it where it was Ok
none_stopped : {A E : Type 0} (result : Result A E) (stopped : Option E) → stopped ≡ result_err result → is_none stopped ≡ true
    → is_ok result ≡ true
none_stopped (Ok a) stopped is none = refl
none_stopped (Err e) stopped is none = absurd (true≢false (sym none ∙ ap is_none is))

-- what is known where the history was full
when_full : {A : Type 0} (result : Result A Unplayed) (P : Type 0) → IfErr result (λ why. why ≡ HistoryFull → P)
    → result_err result ≡ Some HistoryFull → P
when_full (Ok a) P known is = let bad : true ≡ false = ap is_none is in absurd (true≢false bad)
when_full (Err why) P known is = known (ap (λ (o : Option Unplayed). unwrap_or o why) is)

module _ {K : Type 0} {C : Ghosts (State K) (Moment K)} {X : Type 0} {H : X → Type 0} where
  -- the lines that were played are those of the part
  pub has_played : (state : Slot X H → FilterState) (studio : Studio K) (part : SessionPart X H) (weight : ℕ) (p : Player (Seat K C) X H)
      (lines : Vec Line Global) (result : Result (Unit {0}) Unplayed) → lines ≡ part.lines → p.stopped ≡ result_err result
      → IsSeatOf studio p.seat → weight_of p.seat ≡ weight → job_out p.seat ≡ None
      → IsOf part.session (made_of p.seat) (entries_in (front_of p.seat))
      → ((filters : List FilterState) → Agrees (states state part.desk.chest) filters
      → AreBegun filters (lines_of lines.items) (own_of (known_by p.seat)))
      → OnOk result ((filters : List FilterState) → Agrees (states state part.desk.chest) filters
      → HasMade part.session filters (lines_of lines.items) (made_of p.seat) (entries_in (front_of p.seat)))
      → OnOk result
      (shown_of p ≡ digests_in (base_of studio) (entries_in (front_of p.seat))
      (picked (made_of p.seat) (entries_in (front_of p.seat))))
      → length (made_of p.seat) ≤ most_made (lines_of lines.items)
      → IfErr result (λ why. why ≡ HistoryFull → IsStoppedAtFull (lines_of lines.items) (known_by p.seat))
      → HasPlayed state studio part weight p
  has_played state studio part weight p lines result lines_are stopped seat weight_is free of begun made told count full =
      let es = entries_in (front_of p.seat) in
      record {
        seat = seat;
        weight_is = weight_is;
        free = free;
        of = of;
        begun = λ filters agrees.
            subst (λ ls. AreBegun filters (lines_of ls.items) (own_of (known_by p.seat))) lines_are (begun filters agrees);
        count = subst (λ ls. length (made_of p.seat) ≤ most_made (lines_of ls.items)) lines_are count;
        full = λ is. subst (λ ls. IsStoppedAtFull (lines_of ls.items) (known_by p.seat)) lines_are
            (when_full result (IsStoppedAtFull (lines_of lines.items) (known_by p.seat)) full (sym stopped ∙ is));
        made = λ all filters agrees.
            let those = when_ok result made (none_stopped result p.stopped stopped all) filters agrees in
            subst (λ ls. HasMade part.session filters (lines_of ls.items) (made_of p.seat) es) lines_are those;
        told = λ all. when_ok result told (none_stopped result p.stopped stopped all);
      }
