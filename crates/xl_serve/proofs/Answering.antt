-- What a line makes of what stands, by what it asks for.
use Rattle.std.proofs.Common.{◌≡◌, inr, ℕ, ◌+◌, ◌<◌, List, length, refl, sym, ap, ◌∙◌, subst}
use Rattle.std.specs.Prelude.{Option, Some, None, IfSome, slice_index}
use Rattle.spec_script.specs.Script.{Line}
use Rattle.spec_script.specs.Words.{words_of}
use Rattle.spec_serve.specs.Hearing.{Asks, plays, requests, nothing, bad, Hearing, Heard, hear, hear_script}
use Rattle.spec_serve.specs.Seen.{seen_by}
use Rattle.spec_serve.specs.Talk.{IsTurn}
use Rattle.spec_serve.specs.Windows.{Request, request_of}
use Rattle.xl_history.specs.Editing.{Editing}
use Rattle.xl_history.specs.History.{History}
use Rattle.xl_run.specs.Filters.{FitsChest}
use Rattle.xl_serve.specs.Played.{IsAnswered, GoesOn}
use Rattle.xl_serve.specs.Serving.{Now, chest_at, StandsSomehow, Answers, IsCutAt, IsPlayedOn}
use Rattle.xl_serve.specs.Standing.{IsHearing}
use Rattle.xl_serve.proofs.Heard.{IsHeardFit, dropped_then, AsksFit, heard_fit}
use Rattle.xl_serve.proofs.Plain.{no_request, is_request, request_fit}
use Rattle.xl_serve.proofs.Serving.{played_on, answered_on, may_play}
use Rattle.xl_serve.proofs.Shown.{IsRequest, request_is_within}
use Rattle.xl_window.specs.Viewing as viewing
use Rattle.xl_window.proofs.Going.{goes_further}

-- a window that was shown of the old history is one of the new
pub viewed_still : {D : Type 0} (old new : Editing D) (viewed then_viewed : Option History) → then_viewed ≡ viewed → GoesOn old new
    → viewing.GoesOn viewed old.history → viewing.GoesOn then_viewed new.history
viewed_still old new viewed then_viewed same goes is =
    subst (λ v. viewing.GoesOn v new.history) (sym same)
    (goes_further viewed old.history new.history is (goes.base_is, goes.longer))

-- ---- a line that is no request

module _ (number : ℕ) (line : List ℕ) (old : Now) (asks : Asks) (hearing : Hearing)
    (is : record { asks = asks; hearing = hearing } ≡ hear_script number line old.hearing) (none : request_of (words_of line) ≡ None) where
  abbrev heard : Heard
  heard = record { asks = asks; hearing = hearing }

  heard_is : heard ≡ hear number line old.hearing
  heard_is = is ∙ sym (no_request number line old.hearing none)

  fit_of : IsHearing old.hearing → IsHeardFit old.hearing heard
  fit_of h = subst (IsHeardFit old.hearing) (sym is) (heard_fit number line old.hearing h)

  pub plays_eight : (session : ℕ) (played : Line) → asks ≡ plays session played → StandsSomehow old → session < 8
  plays_eight session played asked somehow =
      let fit : AsksFit old.hearing (plays session played) =
      subst (AsksFit old.hearing) asked (fit_of somehow.4.hearing_is).asked in
      fit.0

  pub plays_fit : (session : ℕ) (played : Line) → asks ≡ plays session played → StandsSomehow old
      → FitsChest (chest_at old session) played
  plays_fit session played asked somehow =
      -- the number of the line is told by whoever hears it: that it fits does not depend on it
      may_play somehow.0 somehow.1 somehow.2 somehow.3 (1 + length somehow.2) line old refl somehow.4 session played heard asked
      (fit_of somehow.4.hearing_is)

  pub plays_seen : (session : ℕ) (played : Line) → asks ≡ plays session played → StandsSomehow old
      → slice_index old.seen session ≡ seen_by old.history.entries session
  plays_seen session played asked somehow =
      (somehow.4.seated session (plays_eight session played asked somehow)).seen

  pub plays_on : (session : ℕ) (played : Line) (new : Now) (text : List ℕ) → asks ≡ plays session played
      → IsPlayedOn session played (record old { hearing = hearing }) new text
      → new.history.base ≡ old.history.base → new.hearing ≡ hearing
      → (viewing.GoesOn old.viewed old.history → viewing.GoesOn new.viewed new.history) → Answers number line old new text
  plays_on session played new text asked on base_is same viewed base filters lines turns at stands =
      played_on base filters lines turns number line old at stands session played heard on.seen on.chest text new heard_is asked
      (fit_of stands.hearing_is) on.played base_is same on.seen_is on.chests_is (viewed stands.viewed)

  pub plays_made : (session : ℕ) (played : Line) (new : Now) (text : List ℕ) → asks ≡ plays session played
      → IsPlayedOn session played (record old { hearing = hearing }) new text → IsCutAt number line old new
  plays_made session played new text asked on =
      let answered = on.played.answered number in
      inr (
        answered.turn,
        subst (λ (h : Heard). IsTurn number h.asks answered.turn) heard_is
            (subst (λ (a : Asks). IsTurn number a answered.turn) (sym asked) answered.is_turn),
        answered.entries,
      )

  plain_on : (plain : Asks) (text : List ℕ) → asks ≡ plain → ((s : ℕ) (dropped : List ℕ) → dropped_then plain s dropped ≡ dropped)
      → IsAnswered number plain old.history old.history text → Answers number line old (record old { hearing = hearing }) text
  plain_on plain text asked keeps answered base filters lines turns at stands =
      answered_on base filters lines turns number line old at stands heard text (record old { hearing = hearing }) heard_is
      (fit_of stands.hearing_is)
      (λ s dropped. ap (λ (a : Asks). dropped_then a s dropped) asked ∙ keeps s dropped)
      (subst (λ (a : Asks). IsAnswered number a old.history old.history text) (sym asked) answered) refl refl refl refl stands.viewed

  pub nothing_on : (text : List ℕ) → asks ≡ nothing → IsAnswered number nothing old.history old.history text
      → Answers number line old (record old { hearing = hearing }) text
  nothing_on text asked answered = plain_on nothing text asked (λ s dropped. refl) answered

  pub bad_on : (text : List ℕ) → asks ≡ bad → IsAnswered number bad old.history old.history text
      → Answers number line old (record old { hearing = hearing }) text
  bad_on text asked answered = plain_on bad text asked (λ s dropped. refl) answered

-- ---- a request

pub request_within : (line : List ℕ) (r : Request) → request_of (words_of line) ≡ Some r → IsRequest r
request_within line r is = subst (λ o. IfSome o IsRequest) is (request_is_within (words_of line))

pub request_on : (number : ℕ) (line : List ℕ) (old : Now) (r : Request) (text : List ℕ) (viewed : Option History)
    → request_of (words_of line) ≡ Some r → IsAnswered number (requests r) old.history old.history text
    → (viewing.GoesOn old.viewed old.history → viewing.GoesOn viewed old.history)
    → Answers number line old (record old { viewed = viewed }) text
request_on number line old r text viewed asked answered goes base filters lines turns at stands =
    answered_on base filters lines turns number line old at stands (record { asks = requests r; hearing = old.hearing }) text
    (record old { viewed = viewed }) (is_request number line old.hearing r asked) (request_fit old.hearing r stands.hearing_is)
    (λ s dropped. refl) answered refl refl refl refl (goes stands.viewed)
