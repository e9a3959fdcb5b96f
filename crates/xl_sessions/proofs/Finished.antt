-- The end of a run: the seats were joined, and the studio was taken apart.
use Rattle.std.proofs.Common.{◌≡◌, ℕ, ◌<◌, ◌≤◌, Bool, true, List, length, map, flat_map, None, sym, ap, ◌∙◌, subst, arith}
use Rattle.std.proofs.Common.{length-append}
use Rattle.std.specs.Prelude.{is_none, Result, Ok, Err, IfOk}
use Rattle.std.specs.List.{AllByRecursion, list_all}
use mathlib.Core.List.{IsPrefix}
use Rattle.spec_document.specs.Document.{Document}
use Rattle.spec_document.proofs.Elements.{all-each}
use Rattle.spec_filters.specs.declared.FilterState.{FilterState}
use Rattle.spec_history.specs.History.{Entry, replay, mine}
use Rattle.spec_history.specs.Kept.{IsLegal}
use Rattle.spec_run.specs.Fronts.{IsFrontOf}
use Rattle.spec_script.specs.Script.{Line}
use Rattle.spec_seats.specs.Digests.{digests_in}
use Rattle.spec_seats.specs.Ended.{AreEnded}
use Rattle.spec_text.specs.Text.{IsTextOf, printed}
use Rattle.xl_studio.specs.Editing.{Editing}
use Rattle.xl_sessions.specs.Outcomes.{FromFirst}
use Rattle.spec_script.specs.Script.{list_at}
use Rattle.xl_sessions.specs.Full.{IsNotFull}
use Rattle.xl_sessions.specs.Players.{AreOfSessions, HaveOutcomes, HaveSomeOutcomes, AreKnown, places_of, shown_of}
use Rattle.xl_sessions.specs.Players.{count_of, LeaveRoom}
use Rattle.xl_run.specs.Printing.{IsPrinted}
use Rattle.xl_sessions.specs.declared.players.Player.{Player}
use Rattle.xl_sessions.proofs.Counts.{at_most_length, not_full_each, places_count}
use Rattle.xl_run.proofs.Lined.{legal_has_lines}
use Rattle.xl_sessions.proofs.Outcomes.{HasOutcome, Own, none_is_out, saves_have_ended, digests_are, makes_a_front, makes_a_text}
use Rattle.xl_sessions.proofs.PlayedParts.{all_own, all_outcomes, all_seats}
use Rattle.xl_studio.specs.declared.moment.Moment.{Moment}
use Rattle.xl_studio.specs.declared.seat.Seat.{Seat}
use Rattle.xl_studio.specs.declared.seat.Studio.{Studio}
use Rattle.xl_studio.specs.Moments.{entries_in}
use Rattle.xl_studio.specs.Seats.{base_of, front_of}
use Rattle.xl_studio.specs.State.{State, moments_of}
use Rattle.xl_studio.proofs.Grown.{entries-prefix}
use Rattle.xl_studio.proofs.Seated.{back}
use Rattle.xl_turn.specs.declared.view.Chronicle.{Ghosts}
use Rattle.xl_turn.specs.Seats.{IsEachOnce}
use Rattle.xl_turn.specs.Sums.{total}
use Rattle.xl_turn.proofs.Fronts.{prefix_trans}

-- the text of a result, where all lines were played
pub text_is : {T E : Type 0} (r : Result T E) (bytes : T → List ℕ) (all : Bool) (base : Document) (lists : List (List Line))
    (chests : List (List FilterState)) (es : List Entry) → IfOk r (λ text. all ≡ true)
    → (all ≡ true → IsTextOf (printed base es) base lists chests es) → (all ≡ true → IfOk r (λ text. bytes text ≡ printed base es))
    → IfOk r (λ text. IsTextOf (bytes text) base lists chests es)
text_is (Ok text) bytes all base lists chests es done is printed_is =
    subst (λ (out : List ℕ). IsTextOf out base lists chests es) (sym (printed_is done)) (is done)
text_is (Err e) bytes all base lists chests es done is printed_is = tt

-- what is printed of these entries and digests, where all lines were played
abbrev pub Prints : {T E : Type 0} → Result T E → (bytes : T → List ℕ) → (texts : List (List (List ℕ))) → (all : Bool)
    → List Entry → Type 0
Prints r bytes texts all es =
    (base : Document) → all ≡ true → IsLegal base es → ((session : ℕ) → session < 8 → AreEnded (mine es session))
    → ((session : ℕ) → session < 8 → list_at texts session ≡ digests_in base es (mine es session))
    → IfOk r (λ text. bytes text ≡ printed base es)

module _ {K : Type 0} {C : Ghosts (State K) (Moment K)} {X : Type 0} {H : X → Type 0} (studio : Studio K)
    (players : List (Player (Seat K C) X H)) (c : Editing K) (joined last : List (Moment K)) (made : List ℕ)
    (eight : length players ≡ 8) (of : AreOfSessions studio players) (known : AreKnown joined players)
    (begins : IsPrefix joined last) (ends : IsPrefix last (moments_of c))
    (made_is : made ≡ flat_map places_of players) (each : IsEachOnce (length c.history.entries) made) where
  abbrev es : List Entry
  es = c.history.entries

  abbrev done_of : Player (Seat K C) X H → Bool
  done_of p = is_none p.stopped

  whole : IsPrefix joined (moments_of c)
  whole = prefix_trans joined last (moments_of c) begins ends

  once : IsEachOnce (length es) (flat_map places_of players)
  once = subst (IsEachOnce (length es)) made_is each

  own : FromFirst (Own places_of shown_of done_of es) 0 players
  own =
      subst (λ (all : List Entry). FromFirst (Own places_of shown_of done_of all) 0 players) (back c)
      (all_own studio players joined (moments_of c) known whole of)

  fronts_begin : AllByRecursion (λ (p : Player (Seat K C) X H). length (entries_in (front_of p.seat)) ≤ length es) players
  fronts_begin = all-each (λ (p : Player (Seat K C) X H). IsPrefix (front_of p.seat) joined)
      (λ (p : Player (Seat K C) X H). length (entries_in (front_of p.seat)) ≤ length es) players
      (λ p at.
      let begun = entries-prefix (front_of p.seat) (moments_of c) (prefix_trans (front_of p.seat) joined (moments_of c) at whole) in
      let more = length-append (entries_in (front_of p.seat)) begun.0 in
      let all = ap length begun.1 in
      let back_is = ap length (back c) in
      omega (arith, more, all, back_is)) known

  -- no session found the history full
  pub none_full : LeaveRoom players → AllByRecursion (λ (p : Player (Seat K C) X H). IsNotFull p.stopped) players
  none_full room =
      let most = at_most_length (length es) (flat_map places_of players) once in
      let count = places_count players in
      not_full_each (total count_of players) (length es) players (omega (arith, most, count)) fronts_begin room

  pub out_is_none : (base : Document) → (replay base es).out ≡ None
  out_is_none base = none_is_out places_of shown_of done_of es players eight once own base

  whole_outcomes : (chests : List (List FilterState)) (lists : List (List Line)) → HaveOutcomes studio chests lists players
      → FromFirst (HasOutcome places_of shown_of done_of es (base_of studio) chests lists) 0 players
  whole_outcomes chests lists have =
      subst (λ (all : List Entry). FromFirst (HasOutcome places_of shown_of done_of all (base_of studio) chests lists) 0 players)
      (back c)
      (all_outcomes studio players joined (moments_of c) known whole chests lists (all_seats studio players of) have)

  -- what was made is of the first calls of the script
  pub makes_front : (chests : List (List FilterState)) (lists : List (List Line)) → HaveOutcomes studio chests lists players
      → IsFrontOf lists chests es
  makes_front chests lists have =
      makes_a_front places_of shown_of done_of es players eight once own (base_of studio) chests lists
      (whole_outcomes chests lists have)

  makes_text : (chests : List (List FilterState)) (lists : List (List Line)) → HaveOutcomes studio chests lists players
      → IsLegal (base_of studio) es → (all : Bool) → all ≡ list_all done_of players → all ≡ true
      → IsTextOf (printed (base_of studio) es) (base_of studio) lists chests es
  makes_text chests lists have legal all is so =
      makes_a_text places_of shown_of done_of es players eight once own (base_of studio) chests lists
      (whole_outcomes chests lists have)
      (sym is ∙ so) legal

  -- each entry can be printed, where all lines were played
  pub all_printed : HaveSomeOutcomes studio players → IsLegal (base_of studio) es → (all : Bool) → all ≡ list_all done_of players
      → (shown : List Entry) → shown ≡ es → all ≡ true → AllByRecursion (λ e. IsPrinted e.reply) shown
  all_printed have legal all is shown same so =
      subst (AllByRecursion (λ (e : Entry). IsPrinted e.reply)) (sym same)
      (legal_has_lines (base_of studio) es legal (makes_text have.0 have.1 have.2 legal all is so).printable)

  -- and then the text is one of the script
  pub is_text : {T E : Type 0} (r : Result T E) (bytes : T → List ℕ) (texts : List (List (List ℕ))) (all : Bool)
      → IsLegal (base_of studio) es → all ≡ list_all done_of players → texts ≡ map shown_of players → (shown : List Entry)
      → shown ≡ es
      → IfOk r (λ text. all ≡ true) → Prints r bytes texts all shown
      → (chests : List (List FilterState)) (lists : List (List Line)) → HaveOutcomes studio chests lists players
      → IfOk r (λ text. IsTextOf (bytes text) (base_of studio) lists chests es)
  is_text r bytes texts all legal is told shown same done prints chests lists have =
      let prints_all : Prints r bytes texts all es = subst (Prints r bytes texts all) same prints in
      text_is r bytes all (base_of studio) lists chests es done (makes_text chests lists have legal all is)
      (λ so. prints_all (base_of studio) so legal (saves_have_ended places_of shown_of done_of es players eight once own)
      (λ session below. ap (λ (ts : List (List (List ℕ))). list_at ts session) told
      ∙ digests_are places_of shown_of done_of es players eight once own (base_of studio) chests lists
      (whole_outcomes chests lists have)
      (sym is ∙ so) session below))
