-- The players of a run, from their parts to what they have made.
use Rattle.std.proofs.Common.{◌≡◌, ℕ, suc, ◌<◌, List, [], ◌∷◌, ◌++◌, length, map, take, drop, None, refl, sym, ap, ◌∙◌, subst, arith}
use Rattle.std.proofs.Math.Seq.{take-append_seam}
use Rattle.std.specs.Prelude.{is_none, string_bytes, Vec}
use Rattle.std.specs.declared.alloc.Global.{Global}
use Rattle.std.specs.List.{AllByRecursion, AllZip}
use mathlib.Core.List.{IsPrefix}
use Rattle.spec_filters.specs.declared.FilterState.{FilterState}
use Rattle.spec_history.specs.History.{latest_of}
use Rattle.spec_script.specs.Script.{Line}
use Rattle.spec_seats.specs.Made.{IsOf}
use Rattle.spec_seats.proofs.More.{of_grows}
use Rattle.spec_tables.specs.Agrees.{Agrees}
use Rattle.xl_filters.specs.declared.chest.Slot.{Slot}
use Rattle.xl_sessions.specs.Outcomes.{FromFirst, IsOutcome}
use Rattle.spec_script.specs.Script.{list_at}
use Rattle.xl_sessions.specs.Players.{IsBrought, IsFitPart, IsSeated, CanPlay, HasPlayed, Plays, HavePlayed}
use Rattle.xl_sessions.specs.Players.{IsOfSession, AreOfSessions, HaveOutcomes, AreSeats, AreKnown, AreBrought}
use Rattle.xl_sessions.specs.Players.{AreFitParts, AreSeated, places_of, shown_of, weight_in}
use Rattle.xl_sessions.specs.declared.players.SessionPart.{SessionPart}
use Rattle.xl_sessions.specs.declared.players.Player.{Player}
use Rattle.xl_run.proofs.Boxes.{full_agrees}
use Rattle.xl_sessions.proofs.Outcomes.{HasOutcome, Own, outcome_grows}
use Rattle.xl_sessions.proofs.Zips.{zip_length, zip_through, zip_from, from_first_each, from_first_with, from_first_below}
use Rattle.xl_studio.specs.declared.moment.Moment.{Moment}
use Rattle.xl_studio.specs.declared.seat.Seat.{Seat}
use Rattle.xl_studio.specs.declared.seat.Studio.{Studio}
use Rattle.xl_studio.specs.Jobs.{job_out}
use Rattle.xl_studio.specs.Moments.{entries_in}
use Rattle.xl_studio.specs.Seats.{base_of, front_of, made_of, weight_of, IsSeatOf}
use Rattle.xl_studio.specs.State.{State}
use Rattle.xl_studio.proofs.Grown.{entries-prefix}
use Rattle.xl_turn.specs.declared.view.Chronicle.{Ghosts}
use Rattle.xl_turn.specs.Sums.{total}
use Rattle.xl_turn.proofs.Fronts.{prefix_trans}

-- what a vector has after its whole list was lent
lent_back : {A : Type 0} (n : ℕ) (ys xs : List A) → length ys ≡ n → take n (ys ++ drop (length ys) xs) ≡ ys
lent_back n ys xs is = ap (λ (k : ℕ). take k (ys ++ drop (length ys) xs)) (sym is) ∙ take-append_seam ys (drop (length ys) xs)

module _ {K : Type 0} {C : Ghosts (State K) (Moment K)} {X : Type 0} {H : X → Type 0} where
  -- ---- before the lines

  can_play : (state : Slot X H → FilterState) (studio : Studio K) (front : List (Moment K)) (session : ℕ) (part : SessionPart X H)
      (p : Player (Seat K C) X H)
      → latest_of (entries_in front) ≡ 0 → session < 8 → IsFitPart state session part → IsSeated studio front part p
      → CanPlay state studio p
  can_play state studio front session part p unchanged below fit seated =
      let own : IsFitPart state session p.part = subst (IsFitPart state session) (sym seated.part_is) fit in
      let number = own.session_is in
      record {
        below = omega (arith, below, number);
        seat = seated.seat;
        none = seated.none;
        free = seated.free;
        unchanged = ap (λ (ms : List (Moment K)). latest_of (entries_in ms)) seated.front_is ∙ unchanged;
        all = own.all;
        fit = own.fit;
        blank = ap (map string_bytes) seated.blank;
      }

  pub all_can_play : (state : Slot X H → FilterState) (studio : Studio K) (front : List (Moment K)) (parts : List (SessionPart X H))
      (players : List (Player (Seat K C) X H))
      → latest_of (entries_in front) ≡ 0 → length parts ≡ 8 → AreFitParts state parts → AreSeated studio front parts players
      → AllByRecursion (CanPlay state studio) players
  all_can_play state studio front parts players unchanged eight fit seated =
      let Q : ℕ → Player (Seat K C) X H → Type 0 =
      λ session p. (part : SessionPart X H) × IsFitPart state session part × IsSeated studio front part p in
      from_first_below Q (CanPlay state studio) 8 0 players
      (λ session p below found. can_play state studio front session found.0 p unchanged below found.1 found.2)
      (omega (arith, eight, zip_length (IsSeated studio front) parts players seated))
      (zip_from (IsFitPart state) (IsSeated studio front) Q 0 parts players (λ session part p is at. (part, is, at)) fit seated)

  -- ---- after them

  pub have_played : (state : Slot X H → FilterState) (studio : Studio K) (front : List (Moment K)) (parts : List (SessionPart X H))
      (old new : List (Player (Seat K C) X H))
      → AreSeated studio front parts old → AllZip (Plays state studio) old new → HavePlayed state studio parts new
  have_played state studio front parts old new seated played =
      zip_through (IsSeated studio front) (Plays state studio) (λ part p. HasPlayed state studio part 1 p) parts old new
      (λ part a b at plays. subst (λ (n : ℕ). HasPlayed state studio part n b) at.light
      (subst (λ (q : SessionPart X H). HasPlayed state studio q (weight_of a.seat) b) at.part_is plays))
      seated played

  -- the parts were taken out of the room
  pub seated_same : (studio : Studio K) (front : List (Moment K)) (taken parts : Vec (SessionPart X H) Global)
      (players : List (Player (Seat K C) X H))
      → taken ≡ parts → AreSeated studio front taken.items players → AreSeated studio front parts.items players
  seated_same studio front taken parts players same seated =
      subst (λ (v : Vec (SessionPart X H) Global). AreSeated studio front v.items players) same seated

  -- the lists that were lent, and what came back
  pub lent_can_play : (state : Slot X H → FilterState) (studio : Studio K) (front : List (Moment K)) (parts : List (SessionPart X H))
      (players lent : List (Player (Seat K C) X H))
      → lent ≡ players → latest_of (entries_in front) ≡ 0 → length parts ≡ 8 → AreFitParts state parts
      → AreSeated studio front parts players → AllByRecursion (CanPlay state studio) lent
  lent_can_play state studio front parts players lent is unchanged eight fit seated =
      subst (AllByRecursion (CanPlay state studio)) (sym is)
      (all_can_play state studio front parts players unchanged eight fit seated)

  pub lent_have_played : (state : Slot X H → FilterState) (studio : Studio K) (front : List (Moment K)) (parts : List (SessionPart X H))
      (old lent new : List (Player (Seat K C) X H)) (n : ℕ)
      → lent ≡ old → length new ≡ length lent → length lent ≡ n → AreSeated studio front parts old
      → AllZip (Plays state studio) lent new
      → HavePlayed state studio parts (take n (new ++ drop (length new) old))
  lent_have_played state studio front parts old lent new n is same long seated played =
      subst (HavePlayed state studio parts) (sym (lent_back n new old (same ∙ long)))
      (have_played state studio front parts lent new (subst (AreSeated studio front parts) (sym is) seated) played)

  pub of_sessions : (state : Slot X H → FilterState) (studio : Studio K) (parts : List (SessionPart X H))
      (players : List (Player (Seat K C) X H))
      → AreFitParts state parts → HavePlayed state studio parts players → AreOfSessions studio players
  of_sessions state studio parts players fit played =
      zip_from (IsFitPart state) (λ part p. HasPlayed state studio part 1 p) (IsOfSession studio) 0 parts players
      (λ session part p is has. record {
        seat = has.seat;
        light = has.weight_is;
        free = has.free;
        of = subst (λ (n : ℕ). IsOf n (made_of p.seat) (entries_in (front_of p.seat))) is.session_is has.of;
      }) fit played

  outcome : (state : Slot X H → FilterState) (studio : Studio K) (session : ℕ) (filters : List FilterState) (lines : List Line)
      (part : SessionPart X H) (p : Player (Seat K C) X H)
      → IsBrought state session filters lines part → HasPlayed state studio part 1 p
      → IsOutcome (base_of studio) session filters lines (entries_in (front_of p.seat)) (made_of p.seat) (shown_of p) (is_none p.stopped)
  outcome state studio session filters lines part p brought has =
      let es = entries_in (front_of p.seat) in
      subst (λ (n : ℕ). IsOutcome (base_of studio) n filters lines es (made_of p.seat) (shown_of p) (is_none p.stopped)) brought.session_is
      (subst (λ (ls : List Line). IsOutcome (base_of studio) part.session filters ls es (made_of p.seat) (shown_of p) (is_none p.stopped))
      brought.lines_are (record {
        of = has.of;
        begun = has.begun filters (subst (λ chest. Agrees chest filters) (sym brought.chest_is) (full_agrees filters));
        made = λ done. has.made done filters (subst (λ chest. Agrees chest filters) (sym brought.chest_is) (full_agrees filters));
        told = has.told;
      }))

  pub outcomes : (state : Slot X H → FilterState) (studio : Studio K) (chests : List (List FilterState))
      (lists : List (List Line)) (parts : List (SessionPart X H)) (players : List (Player (Seat K C) X H))
      → AreBrought state chests lists 0 parts → HavePlayed state studio parts players → HaveOutcomes studio chests lists players
  outcomes state studio chests lists parts players brought played =
      zip_from (λ session part. IsBrought state session (list_at chests session) (list_at lists session) part)
      (λ part p. HasPlayed state studio part 1 p)
      (λ session p. IsOutcome (base_of studio) session (list_at chests session) (list_at lists session)
      (entries_in (front_of p.seat)) (made_of p.seat) (shown_of p) (is_none p.stopped)) 0 parts players
      (λ session part p is has. outcome state studio session (list_at chests session) (list_at lists session) part p is has)
      brought played

  pub players_count : (state : Slot X H → FilterState) (studio : Studio K) (parts : List (SessionPart X H))
      (players : List (Player (Seat K C) X H)) → HavePlayed state studio parts players → length players ≡ length parts
  players_count state studio parts players played = zip_length (λ part p. HasPlayed state studio part 1 p) parts players played

  -- ---- joined

  pub all_seats : (studio : Studio K) (players : List (Player (Seat K C) X H)) → AreOfSessions studio players
      → AreSeats studio players
  all_seats studio players of =
      from_first_each (IsOfSession studio) (λ p. IsSeatOf studio p.seat × (job_out p.seat ≡ None)) 0 players
      (λ session p is. (is.seat, is.free)) of

  weights_from : (studio : Studio K) (first : ℕ) (players : List (Player (Seat K C) X H))
      → FromFirst (IsOfSession studio) first players → total weight_in players ≡ length players
  weights_from studio first [] of = refl
  weights_from studio first (p ∷ players) of =
      let one = of.0.light in
      let rest = weights_from studio (suc first) players of.1 in
      omega (arith, one, rest)

  pub all_weights : (studio : Studio K) (players : List (Player (Seat K C) X H)) → AreOfSessions studio players
      → total weight_in players ≡ length players
  all_weights studio players of = weights_from studio 0 players of

  module _ (studio : Studio K) (players : List (Player (Seat K C) X H)) (joined front : List (Moment K))
      (known : AreKnown joined players) (begins : IsPrefix joined front) where
    entries_begin : (p : Player (Seat K C) X H) → IsPrefix (front_of p.seat) joined
        → IsPrefix (entries_in (front_of p.seat)) (entries_in front)
    entries_begin p at = entries-prefix (front_of p.seat) front (prefix_trans (front_of p.seat) joined front at begins)

    -- the entries of each session, in the whole history
    pub all_own : AreOfSessions studio players → FromFirst (Own places_of shown_of (λ p. is_none p.stopped) (entries_in front)) 0 players
    all_own of =
        from_first_with (IsOfSession studio) (λ p. IsPrefix (front_of p.seat) joined)
        (Own places_of shown_of (λ p. is_none p.stopped) (entries_in front)) 0 players
        (λ session p is at. of_grows session (made_of p.seat) (entries_in (front_of p.seat)) (entries_in front) (entries_begin p at)
        is.of) of known

    -- what became of each session's lines, in the whole history
    pub all_outcomes : (chests : List (List FilterState)) (lists : List (List Line)) → AreSeats studio players
        → HaveOutcomes studio chests lists players
        → FromFirst (HasOutcome places_of shown_of (λ p. is_none p.stopped) (entries_in front) (base_of studio) chests lists) 0 players
    all_outcomes chests lists seats outs =
        let Q : ℕ → Player (Seat K C) X H → Type 0 =
        λ session p. IsOutcome (base_of studio) session (list_at chests session) (list_at lists session)
        (entries_in (front_of p.seat)) (made_of p.seat) (shown_of p) (is_none p.stopped) in
        let Seated : ℕ → Player (Seat K C) X H → Type 0 = λ session p. Q session p × IsSeatOf studio p.seat in
        from_first_with Seated (λ p. IsPrefix (front_of p.seat) joined)
        (HasOutcome places_of shown_of (λ p. is_none p.stopped) (entries_in front) (base_of studio) chests lists) 0 players
        (λ session p is at. outcome_grows (base_of studio) session (list_at chests session) (list_at lists session)
        (entries_in (front_of p.seat)) (entries_in front) (made_of p.seat) (shown_of p) (is_none p.stopped)
        is.1.front.legal (entries_begin p at) is.0)
        (from_first_with Q (λ p. IsSeatOf studio p.seat × (job_out p.seat ≡ None)) Seated 0 players (λ session p out seat. (out, seat.0))
        outs seats) known
