-- What stands for a talk between two of its lines.
use Rattle.std.specs.Prelude.{◌≡◌, ◌⊎◌, ℕ, ◌+◌, ◌<◌, List, [], ◌∷◌, ◌++◌, length, map, slice_index, slice_index_or, slice_set, Option}
use Rattle.spec_document.specs.Document.{Document}
use Rattle.spec_filters.specs.declared.FilterState.{FilterState}
use Rattle.spec_script.specs.Script.{Line, list_at}
use Rattle.spec_serve.specs.Hearing.{Hearing, start_hearing, hear}
use Rattle.spec_serve.specs.Said.{Said, entries_of, all_said, texts_in, AreSaid}
use Rattle.spec_serve.specs.Talk.{IsTurn, AreTurns}
use Rattle.xl_history.specs.History.{History}
use Rattle.xl_serve.specs.Played.{IsPlayed}
use Rattle.xl_serve.specs.Standing.{SeatState, seat_of, IsSeated, heard_from, session_at, HasFilters, IsHearing}
use Rattle.xl_window.specs.Viewing as viewing

-- the history; what was heard; of each session what it has seen and its filters; the history at the last window
pub record Now : Type 0 where
  pub history : History
  pub hearing : Hearing
  pub seen : List ℕ
  pub chests : List (List (Option FilterState))
  pub viewed : Option History

abbrev pub now_of : History → Hearing → (seen : List ℕ) → (chests : List (List (Option FilterState))) → (viewed : Option History) → Now
now_of history hearing seen chests viewed =
    record { history = history; hearing = hearing; seen = seen; chests = chests; viewed = viewed }

abbrev pub chest_at : Now → (session : ℕ) → List (Option FilterState)
chest_at now session = slice_index_or now.chests session []

abbrev pub seat_at : Now → (session : ℕ) → SeatState
seat_at now session = seat_of (slice_index now.seen session) (chest_at now session)

-- this stands for a talk of these lines: what was said to each is in the history, and each session is where its entries leave it
pub record Stands (base : Document) (filters : List (List FilterState)) (lines : List (List ℕ)) (turns : List (List Said)) (now : Now)
    : Type 0 where
  pub base_is : now.history.base ≡ base
  pub entries : now.history.entries ≡ entries_of (all_said turns)
  pub said : AreSaid base [] (all_said turns)
  pub turn : AreTurns 1 (start_hearing (map length filters)) lines turns
  pub heard : now.hearing ≡ heard_from 1 (start_hearing (map length filters)) lines
  pub hearing_is : IsHearing now.hearing
  pub seated : (session : ℕ) → session < 8
      → IsSeated (list_at filters session) now.history.entries session (seat_at now session)
  pub has : (session : ℕ) → session < 8
      → HasFilters (session_at now.hearing session).filters (session_at now.hearing session).dropped (chest_at now session)
  pub viewed : viewing.GoesOn now.viewed now.history
  pub eight_seen : length now.seen ≡ 8
  pub eight_chests : length now.chests ≡ 8

-- it stands for some talk
abbrev pub StandsSomehow : Now → Type 0
StandsSomehow now =
    (base : Document) × (filters : List (List FilterState)) × (lines : List (List ℕ)) × (turns : List (List Said))
    × Stands base filters lines turns now

-- this stands for the talk with that line's turn, whose text this is
pub record StandsOn (base : Document) (filters : List (List FilterState)) (lines : List (List ℕ)) (turns : List (List Said))
    (line : List ℕ) (text : List ℕ) (now : Now) : Type 0 where
  pub last : List Said
  pub stands : Stands base filters (lines ++ line ∷ []) (turns ++ last ∷ []) now
  pub text_is : text ≡ texts_in now.history.base now.history.entries last

-- from whatever talk it stood for, the line of this number
abbrev pub Answers : (number : ℕ) → (line : List ℕ) → (old new : Now) → (text : List ℕ) → Type 0
Answers number line old new text =
    (base : Document) (filters : List (List FilterState)) (lines : List (List ℕ)) (turns : List (List Said))
    → number ≡ 1 + length lines → Stands base filters lines turns old → StandsOn base filters lines turns line text new

-- memory ran out within the line of this number: nothing was entered for it, or just what answers it
abbrev pub IsCutAt : (number : ℕ) → (line : List ℕ) → (old new : Now) → Type 0
IsCutAt number line old new =
    (new.history.entries ≡ old.history.entries)
    ⊎ ((turn : List Said) × IsTurn number (hear number line old.hearing).asks turn
    × (new.history.entries ≡ old.history.entries ++ entries_of turn))

-- a line of a session was played, on its seat
pub record IsPlayedOn (session : ℕ) (line : Line) (old new : Now) (text : List ℕ) : Type 0 where
  pub seen : ℕ
  pub chest : List (Option FilterState)
  pub played : IsPlayed session line old.history new.history (seat_at old session) (seat_of seen chest) text
  pub seen_is : new.seen ≡ slice_set old.seen session seen
  pub chests_is : new.chests ≡ slice_set old.chests session chest
