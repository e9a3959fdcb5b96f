-- How many entries the lines of sessions make, and what is known where a session finds the history full.
use Rattle.std.specs.Prelude.{◌≡◌, ℕ, ◌+◌, ◌*◌, ◌<◌, ◌≤◌, List, length, Option, Some}
use Rattle.spec_history.specs.declared.TheConstants.{MAX_ENTRIES}
use Rattle.spec_script.specs.Script.{Line}
use Rattle.spec_text.specs.Text.{calls_of}
use Rattle.xl_run.specs.declared.unplayed.Unplayed.{Unplayed}
use Rattle.xl_run.specs.declared.unplayed.Unplayed.TheVariants.{HistoryFull}
use Rattle.xl_studio.specs.Calling.{Known}
use Rattle.xl_studio.specs.Moments.{entries_in}

-- the entries that these lines make at most: two for each call and save, the second of which only a save makes
abbrev pub most_made : List Line → ℕ
most_made lines = 2 * length (calls_of lines)

-- a session did not stop at a full history
abbrev pub IsNotFull : Option Unplayed → Type 0
IsNotFull stopped = stopped ≡ Some HistoryFull → ⊥

module _ {K : Type 0} where
  -- at most so many entries were made
  abbrev pub MakesAtMost : (most : ℕ) → (old new : Known K) → Type 0
  MakesAtMost most old new = length new.made ≤ length old.made + most

  -- no entry was made, since the history has no room for two: one for a call, and one that a save may owe
  pub record FindsFull (old new : Known K) : Type 0 where
    pub none : MakesAtMost 0 old new
    pub full : MAX_ENTRIES < length (entries_in new.front) + 2

  -- the history has no room for two entries, and the lines would have made two more than there are of the session
  pub record IsStoppedAtFull (lines : List Line) (known : Known K) : Type 0 where
    pub fewer : length known.made + 2 ≤ most_made lines
    pub full : MAX_ENTRIES < length (entries_in known.front) + 2
