-- What a session needs for a line and for all its lines, and what comes of them.
use Rattle.std.specs.Prelude.{◌≡◌, ◌⊎◌, ℕ, ◌<◌, ◌≤◌, List, [], ◌∷◌, ◌++◌, length, Option, Result, IfOk, IfErr, OnOk, OnErr}
use Rattle.spec_filters.specs.declared.FilterState.{FilterState}
use Rattle.spec_history.specs.Machine as machine
use Rattle.spec_history.specs.Machine.{Call}
use Rattle.spec_history.specs.History.{Entry, latest_of}
use Rattle.spec_run.specs.Fronts.{AreBegun}
use Rattle.spec_script.specs.Fits.{AreFit}
use Rattle.spec_script.specs.Script.{Line}
use Rattle.spec_seats.specs.Digests.{digests_in}
use Rattle.spec_seats.specs.Made.{HasMade}
use Rattle.spec_seats.specs.Picked.{picked}
use Rattle.spec_tables.specs.Agrees.{Agrees}
use Rattle.spec_tables.specs.Tables.{HaveTables}
use Rattle.spec_text.specs.Text.{calls_along, calls_of}
use Rattle.xl_calls.specs.declared.reply.Reply.{Reply}
use Rattle.xl_calls.specs.Replies.{reply_of}
use Rattle.xl_ports.specs.State.{ShelfState}
use Rattle.xl_run.specs.Filters.{HasAll}
use Rattle.xl_run.specs.declared.unplayed.Unplayed.{Unplayed}
use Rattle.xl_run.specs.declared.unplayed.Unplayed.TheVariants.{HistoryFull}
use Rattle.xl_studio.specs.declared.moment.Moment.{Moment}
use Rattle.xl_studio.specs.declared.seat.Seat.{Seat}
use Rattle.xl_studio.specs.declared.seat.Studio.{Studio}
use Rattle.xl_studio.specs.Answered.{IsReplied}
use Rattle.xl_studio.specs.Calling.{Known, HasHeard}
use Rattle.xl_studio.specs.Moments.{entries_in}
use Rattle.xl_studio.specs.Saving.{IsSaved}
use Rattle.xl_studio.specs.Seats.{base_of, opening_shelf, front_of, known_by, made_of, IsSeatOf}
use Rattle.xl_studio.specs.State.{State}
use Rattle.xl_turn.specs.declared.view.Chronicle.{Ghosts}
use Rattle.xl_sessions.specs.Full.{most_made, MakesAtMost, FindsFull, IsStoppedAtFull}
use Rattle.xl_sessions.specs.Keeping.{KeepsSeat}
use Rattle.xl_sessions.specs.Playing.{IsLineMade}

-- the entries that were made with a seat
abbrev pub own_of : {K : Type 0} → Known K → List Entry
own_of known = picked known.made (entries_in known.front)

-- Of a line nothing was made, or all of it: these entries, with the tables of these filters.
pub record IsLineBegun (filters : List FilterState) (line : Line) (old new : List Entry) : Type 0 where
  pub more : List Entry
  pub grown : new ≡ old ++ more
  pub calls : (more ≡ []) ⊎ (calls_along more ≡ calls_of (line ∷ []))
  pub tables : HaveTables filters more

module _ {K : Type 0} {C : Ghosts (State K) (Moment K)} where
  -- A call was answered, or memory ran out for it and nothing was made. It makes one entry at most, and where the history is full
  -- none.
  pub record IsCallAnswered {E : Type 0} (studio : Studio K) (session : ℕ) (call : Call) (result : Result Reply E) (old new : Seat K C)
      (before after : List (Option FilterState)) (bytes : List ℕ) : Type 0 where
    pub keeps : KeepsSeat studio session old new
    pub replied : IfOk result (λ reply. IsReplied (base_of studio) session call before after bytes (known_by old) (known_by new)
        (reply_of reply))
    pub failed : OnErr result (HasHeard (known_by old) (known_by new))
    pub count : MakesAtMost 1 (known_by old) (known_by new)
    pub full : IfOk result (λ reply. reply_of reply ≡ machine.history_full → FindsFull (known_by old) (known_by new))

  -- The same of a save, which makes two.
  pub record IsSaveAnswered {E : Type 0} (see : K → ShelfState) (studio : Studio K) (session : ℕ) (result : Result Reply E)
      (old new : Seat K C) : Type 0 where
    pub keeps : KeepsSeat studio session old new
    pub saved : IfOk result (λ reply. IsSaved see (opening_shelf studio) (base_of studio) session (reply_of reply) (known_by old)
        (known_by new))
    pub failed : OnErr result (HasHeard (known_by old) (known_by new))
    pub count : MakesAtMost 2 (known_by old) (known_by new)
    pub full : IfOk result (λ reply. reply_of reply ≡ machine.history_full → FindsFull (known_by old) (known_by new))

  -- What comes of a line. It was made, or nothing was; where it came to its end it was, and what is said of it stands behind the
  -- others. Where it found the history full, that is known.
  pub record IsLinePlayed (see : K → ShelfState) (studio : Studio K) (session : ℕ) (line : Line)
      (result : Result (Unit {0}) Unplayed) (old new : Seat K C) (before after : List (Option FilterState))
      (digests more : List (List ℕ)) : Type 0 where
    pub keeps : KeepsSeat studio session old new
    pub begun : (filters : List FilterState) → Agrees before filters
        → IsLineBegun filters line (own_of (known_by old)) (own_of (known_by new))
    pub made : OnOk result ((told : List (List ℕ)) × (more ≡ digests ++ told)
        × IsLineMade see (opening_shelf studio) (base_of studio) session line before after (known_by old) (known_by new) told)
    pub count : MakesAtMost (most_made (line ∷ [])) (known_by old) (known_by new)
    pub full : IfErr result (λ why. why ≡ HistoryFull
        → (most_made (line ∷ []) ≡ 2) × FindsFull (known_by old) (known_by new))

  -- All that a session needs for its lines: a seat that has made nothing and knows of no change, all its filters, and lines that name
  -- no other.
  pub record CanPlaySession (studio : Studio K) (session : ℕ) (seat : Seat K C) (chest : List (Option FilterState)) (lines : List Line)
      : Type 0 where
    pub below : session < 8
    pub seated : IsSeatOf studio seat
    pub none : made_of seat ≡ []
    pub unchanged : latest_of (entries_in (front_of seat)) ≡ 0
    pub all : HasAll chest
    pub fit : AreFit (length chest) [] lines

  -- What comes of all its lines. What it has made is of the first of their calls; where it came to its end it is of all, and the
  -- digests are those of what it was shown. Where it found the history full, that is known.
  pub record IsSessionPlayed (studio : Studio K) (session : ℕ) (chest : List (Option FilterState)) (lines : List Line)
      (result : Result (Unit {0}) Unplayed) (old new : Seat K C) (digests : List (List ℕ)) : Type 0 where
    pub keeps : KeepsSeat studio session old new
    pub begun : (filters : List FilterState) → Agrees chest filters → AreBegun filters lines (own_of (known_by new))
    pub made : OnOk result ((filters : List FilterState) → Agrees chest filters
        → HasMade session filters lines (made_of new) (entries_in (front_of new)))
    pub told : OnOk result (digests ≡ digests_in (base_of studio) (entries_in (front_of new)) (own_of (known_by new)))
    pub count : length (made_of new) ≤ most_made lines
    pub full : IfErr result (λ why. why ≡ HistoryFull → IsStoppedAtFull lines (known_by new))
