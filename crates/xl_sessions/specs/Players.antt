-- The sessions and the workers of a run: what they bring, their seats, and what they have made.
use Rattle.std.specs.Prelude.{◌≡◌, ℕ, ◌+◌, ◌<◌, ◌≤◌, true, false, List, [], ◌∷◌, length, map, Option, Some, None}
use Rattle.std.specs.Prelude.{is_none, string_bytes, vec_capacity}
use Rattle.std.specs.Option.{option_or}
use Rattle.std.specs.List.{AllByRecursion, AllZip}
use mathlib.Core.List.{IsPrefix}
use Rattle.spec_filters.specs.declared.FilterState.{FilterState}
use Rattle.spec_history.specs.declared.TheConstants.{MAX_ENTRIES}
use Rattle.spec_history.specs.History.{latest_of}
use Rattle.spec_run.specs.Fronts.{AreBegun}
use Rattle.spec_script.specs.Script.{Line}
use Rattle.spec_script.specs.Fits.{AreFit}
use Rattle.spec_seats.specs.Digests.{digests_in}
use Rattle.spec_seats.specs.Made.{IsOf, HasMade}
use Rattle.spec_seats.specs.Picked.{picked}
use Rattle.spec_tables.specs.Agrees.{Agrees}
use Rattle.xl_filters.specs.Chests.{states}
use Rattle.xl_filters.specs.declared.chest.Slot.{Slot}
use Rattle.xl_script.specs.Lines.{lines_of}
use Rattle.xl_sessions.specs.Full.{most_made, IsStoppedAtFull}
use Rattle.xl_sessions.specs.Lines.{own_of}
use Rattle.xl_sessions.specs.Outcomes.{FromFirst, IsOutcome}
use Rattle.spec_script.specs.Script.{list_at}
use Rattle.xl_run.specs.Filters.{HasAll}
use Rattle.xl_sessions.specs.declared.players.SessionPart.{SessionPart}
use Rattle.xl_sessions.specs.declared.players.Player.{Player}
use Rattle.xl_sessions.specs.declared.players.Worker.{Worker}
use Rattle.xl_sessions.specs.declared.players.Room.{Room}
use Rattle.xl_run.specs.declared.unplayed.Unplayed.{Unplayed}
use Rattle.xl_run.specs.declared.unplayed.Unplayed.TheVariants.{HistoryFull}
use Rattle.xl_studio.specs.declared.moment.Moment.{Moment}
use Rattle.xl_studio.specs.declared.seat.Seat.{Seat}
use Rattle.xl_studio.specs.declared.seat.Studio.{Studio}
use Rattle.xl_studio.specs.Jobs.{job_out}
use Rattle.xl_studio.specs.Moments.{entries_in}
use Rattle.xl_studio.specs.Seats.{base_of, front_of, known_by, made_of, weight_of, IsSeatOf}
use Rattle.xl_studio.specs.State.{State}
use Rattle.xl_turn.specs.Sums.{total}
use Rattle.xl_turn.specs.declared.view.Chronicle.{Ghosts}

-- what a box holds in its slot, as another crate's clauses see it
abbrev pub in_slots : {X : Type 0} {H : X → Type 0} → (state : (x : X) × H x → FilterState) → Slot X H → FilterState
in_slots state s = state (s.filter.vtable, s.filter.value)

-- ---- what the sessions bring

module _ {X : Type 0} {H : X → Type 0} where
  -- a session's number, its lines and its filters, all of them in their slots
  pub record IsBrought (state : Slot X H → FilterState) (session : ℕ) (filters : List FilterState) (lines : List Line)
      (p : SessionPart X H) : Type 0 where
    pub session_is : p.session ≡ session
    pub lines_are : lines_of p.lines.items ≡ lines
    pub chest_is : states state p.desk.chest ≡ map (λ s. Some s) filters

  -- those of all sessions, the first of which has the number `first`
  abbrev pub AreBrought : (state : Slot X H → FilterState) → (chests : List (List FilterState)) → (lists : List (List Line))
      → (first : ℕ) → List (SessionPart X H) → Type 0
  AreBrought state chests lists first ps =
      FromFirst (λ session p. IsBrought state session (list_at chests session) (list_at lists session) p) first ps

  -- they are those of some script
  abbrev pub AreOfAScript : (state : Slot X H → FilterState) → List (SessionPart X H) → Type 0
  AreOfAScript state ps = (chests : List (List FilterState)) × (lists : List (List Line)) × AreBrought state chests lists 0 ps

  -- the lines name no filter that is not there
  pub record IsFitPart (state : Slot X H → FilterState) (session : ℕ) (p : SessionPart X H) : Type 0 where
    pub session_is : p.session ≡ session
    pub all : HasAll (states state p.desk.chest)
    pub fit : AreFit (length (states state p.desk.chest)) [] (lines_of p.lines.items)

  -- how many entries the lines of a part make at most
  abbrev pub most_of : SessionPart X H → ℕ
  most_of p = most_made (lines_of p.lines.items)

  -- they are no more than a history may have
  abbrev pub HaveFewCalls : List (SessionPart X H) → Type 0
  HaveFewCalls ps = total most_of ps ≤ MAX_ENTRIES

  abbrev pub AreFitParts : (state : Slot X H → FilterState) → List (SessionPart X H) → Type 0
  AreFitParts state ps = FromFirst (IsFitPart state) 0 ps

-- ---- the players

module _ {K : Type 0} {C : Ghosts (State K) (Moment K)} {X : Type 0} {H : X → Type 0} where
  abbrev pub places_of : Player (Seat K C) X H → List ℕ
  places_of p = made_of p.seat

  -- the digests of the tiles that the session was shown
  abbrev pub shown_of : Player (Seat K C) X H → List (List ℕ)
  shown_of p = map string_bytes p.digests.items

  abbrev pub weight_in : Player (Seat K C) X H → ℕ
  weight_in p = weight_of p.seat

  -- why the first session ended that ended before its last line
  abbrev pub first_stopped : List (Player (Seat K C) X H) → Option Unplayed
  first_stopped [] = None
  first_stopped (p ∷ ps) = option_or p.stopped (first_stopped ps)

  -- the part with a seat that knows this front, has made nothing and has no job out
  pub record IsSeated (studio : Studio K) (front : List (Moment K)) (part : SessionPart X H) (p : Player (Seat K C) X H) : Type 0 where
    pub part_is : p.part ≡ part
    pub seat : IsSeatOf studio p.seat
    pub front_is : front_of p.seat ≡ front
    pub none : made_of p.seat ≡ []
    pub light : weight_of p.seat ≡ 1
    pub free : job_out p.seat ≡ None
    pub blank : p.digests.items ≡ []

  abbrev pub AreSeated : Studio K → (front : List (Moment K)) → List (SessionPart X H) → List (Player (Seat K C) X H) → Type 0
  AreSeated studio front parts players = AllZip (IsSeated studio front) parts players

  -- all that a session needs for its lines
  pub record CanPlay (state : Slot X H → FilterState) (studio : Studio K) (p : Player (Seat K C) X H) : Type 0 where
    pub below : p.part.session < 8
    pub seat : IsSeatOf studio p.seat
    pub none : made_of p.seat ≡ []
    pub free : job_out p.seat ≡ None
    pub unchanged : latest_of (entries_in (front_of p.seat)) ≡ 0
    pub all : HasAll (states state p.part.desk.chest)
    pub fit : AreFit (length (states state p.part.desk.chest)) [] (lines_of p.part.lines.items)
    pub blank : map string_bytes p.digests.items ≡ []

  -- What the session has made is its own, of the first of its part's calls, and its saves have ended. Where it did not stop, it is of
  -- all, and it has the digests of what it was shown. Where it found the history full, that is known.
  pub record HasPlayed (state : Slot X H → FilterState) (studio : Studio K) (part : SessionPart X H) (weight : ℕ)
      (p : Player (Seat K C) X H) : Type 0 where
    pub seat : IsSeatOf studio p.seat
    pub weight_is : weight_of p.seat ≡ weight
    pub free : job_out p.seat ≡ None
    pub of : IsOf part.session (made_of p.seat) (entries_in (front_of p.seat))
    pub begun : (filters : List FilterState) → Agrees (states state part.desk.chest) filters
        → AreBegun filters (lines_of part.lines.items) (own_of (known_by p.seat))
    pub count : length (made_of p.seat) ≤ most_of part
    pub full : p.stopped ≡ Some HistoryFull → IsStoppedAtFull (lines_of part.lines.items) (known_by p.seat)
    pub made : is_none p.stopped ≡ true → (filters : List FilterState) → Agrees (states state part.desk.chest) filters
        → HasMade part.session filters (lines_of part.lines.items) (made_of p.seat) (entries_in (front_of p.seat))
    pub told : is_none p.stopped ≡ true → shown_of p ≡ digests_in (base_of studio) (entries_in (front_of p.seat))
        (picked (made_of p.seat) (entries_in (front_of p.seat)))

  -- a player before and after its lines
  abbrev pub Plays : (state : Slot X H → FilterState) → Studio K → (old new : Player (Seat K C) X H) → Type 0
  Plays state studio old new = HasPlayed state studio old.part (weight_of old.seat) new

  -- what became of each part
  abbrev pub HavePlayed : (state : Slot X H → FilterState) → Studio K → List (SessionPart X H) → List (Player (Seat K C) X H) → Type 0
  HavePlayed state studio parts players = AllZip (λ part p. HasPlayed state studio part 1 p) parts players

  -- ---- by the sessions' numbers

  -- the seat's entries are the session's
  pub record IsOfSession (studio : Studio K) (session : ℕ) (p : Player (Seat K C) X H) : Type 0 where
    pub seat : IsSeatOf studio p.seat
    pub light : weight_of p.seat ≡ 1
    pub free : job_out p.seat ≡ None
    pub of : IsOf session (made_of p.seat) (entries_in (front_of p.seat))

  abbrev pub AreOfSessions : Studio K → List (Player (Seat K C) X H) → Type 0
  AreOfSessions studio players = FromFirst (IsOfSession studio) 0 players

  -- what became of the lines of each session
  abbrev pub HaveOutcomes : Studio K → (chests : List (List FilterState)) → (lists : List (List Line))
      → List (Player (Seat K C) X H) → Type 0
  HaveOutcomes studio chests lists players =
      FromFirst
      (λ session p. IsOutcome (base_of studio) session (list_at chests session) (list_at lists session)
      (entries_in (front_of p.seat)) (made_of p.seat) (shown_of p) (is_none p.stopped)) 0 players

  abbrev pub HaveSomeOutcomes : Studio K → List (Player (Seat K C) X H) → Type 0
  HaveSomeOutcomes studio players =
      (chests : List (List FilterState)) × (lists : List (List Line)) × HaveOutcomes studio chests lists players

  -- how many entries a session has made
  abbrev pub count_of : Player (Seat K C) X H → ℕ
  count_of p = length (places_of p)

  -- where a session found no room for two entries, the sessions have made two fewer than a history may have
  abbrev pub LeaveRoom : List (Player (Seat K C) X H) → Type 0
  LeaveRoom players =
      AllByRecursion
      (λ p. p.stopped ≡ Some HistoryFull
      → (total count_of players + 2 ≤ MAX_ENTRIES) × (MAX_ENTRIES < length (entries_in (front_of p.seat)) + 2)) players

  -- ---- joined

  -- seats of the studio, none of which has a job out
  abbrev pub AreSeats : Studio K → List (Player (Seat K C) X H) → Type 0
  AreSeats studio players = AllByRecursion (λ p. IsSeatOf studio p.seat × (job_out p.seat ≡ None)) players

  -- what each seat knows begins this front
  abbrev pub AreKnown : (front : List (Moment K)) → List (Player (Seat K C) X H) → Type 0
  AreKnown front players = AllByRecursion (λ p. IsPrefix (front_of p.seat) front) players

-- ---- the workers

module _ {K : Type 0} {C : Ghosts (State K) (Moment K)} where
  -- it has made nothing, and has no job out
  pub record IsFree (studio : Studio K) (w : Worker (Seat K C)) : Type 0 where
    pub seat : IsSeatOf studio w.seat
    pub none : made_of w.seat ≡ []
    pub light : weight_of w.seat ≡ 1
    pub job : job_out w.seat ≡ None
    pub going : w.seat.closed ≡ false

  abbrev pub AreFree : Studio K → List (Worker (Seat K C)) → Type 0
  AreFree studio workers = AllByRecursion (IsFree studio) workers

  -- each worker's number is its place in the list
  abbrev pub AreNumbered : List (Worker (Seat K C)) → Type 0
  AreNumbered workers = FromFirst (λ place w. w.number ≡ place) 0 workers

  -- it has made no entry, and ends with no job out
  pub record HasWorked (studio : Studio K) (w : Worker (Seat K C)) : Type 0 where
    pub seat : IsSeatOf studio w.seat
    pub none : made_of w.seat ≡ []
    pub light : weight_of w.seat ≡ 1
    pub job : job_out w.seat ≡ None

-- ---- the memory

-- there is room for the eight players, their digests, and so many workers
pub record HasRoom {K : Type 0} {C : Ghosts (State K) (Moment K)} {X : Type 0} {H : X → Type 0} (workers : ℕ)
    (room : Room (Seat K C) X H) : Type 0 where
  pub eight : length room.parts.items ≡ 8
  pub none_seated : room.players.items ≡ []
  pub none_working : room.workers.items ≡ []
  pub none_shown : room.digests.items ≡ []
  pub players : 8 ≤ vec_capacity room.players
  pub workers_have : workers ≤ vec_capacity room.workers
  pub digests : 8 ≤ vec_capacity room.digests
