-- What the lines of a script keep: each call is within its type, each filter that a line names is there,
-- and the calls are no more than a script may have.
use Rattle.std.specs.Prelude.{◌≡◌, ℕ, suc, ◌+◌, ◌≤◌, Bool, true, List, [], ◌∷◌, ◌++◌, length, filter, slice_get, unwrap_or}
use Rattle.std.specs.List.{list_all}
use Rattle.spec_history.specs.Machine as machine
use Rattle.spec_history.specs.Machine.{Call}
use Rattle.spec_history.specs.Calls.{IsCall}
use Rattle.spec_script.specs.Script.{Line, call, save, forget, is_there, finds_filter, is_call}
use Rattle.spec_script.specs.declared.TheConstants.{MAX_CALLS}

-- each filter that a call names is there
abbrev pub finds_filters : (filters : ℕ) (dropped : List ℕ) → Call → Bool
finds_filters filters dropped (machine.edit guard es) = list_all (finds_filter filters dropped) es
finds_filters filters dropped (machine.undo named) = true
finds_filters filters dropped machine.redo = true
finds_filters filters dropped (machine.tile stack at) = true
finds_filters filters dropped (machine.peek stack at) = true
finds_filters filters dropped machine.top = true

-- a line of a session that was given so many filters and has dropped some
abbrev pub IsFit : (filters : ℕ) (dropped : List ℕ) → Line → Type 0
IsFit filters dropped (call c) = IsCall c × (finds_filters filters dropped c ≡ true)
IsFit filters dropped save = Unit {0}
IsFit filters dropped (forget slot) = is_there filters dropped slot ≡ true

-- what is dropped after a line
abbrev pub dropped_by : (dropped : List ℕ) → Line → List ℕ
dropped_by dropped (call c) = dropped
dropped_by dropped save = dropped
dropped_by dropped (forget slot) = dropped ++ slot ∷ []

-- one line after another
abbrev pub AreFit : (filters : ℕ) (dropped : List ℕ) → List Line → Type 0
AreFit filters dropped [] = Unit {0}
AreFit filters dropped (line ∷ lines) = IsFit filters dropped line × AreFit filters (dropped_by dropped line) lines

-- the sessions' lines, the first session being that of this number; one past the end of chests has no filter
abbrev pub EachFit : (chests : List ℕ) (session : ℕ) → List (List Line) → Type 0
EachFit chests session [] = Unit {0}
EachFit chests session (lines ∷ lists) =
    AreFit (unwrap_or (slice_get chests session) 0) [] lines × EachFit chests (suc session) lists

-- the calls of all sessions, saves among them
abbrev pub count_calls : List (List Line) → ℕ
count_calls [] = 0
count_calls (lines ∷ lists) = length (filter is_call lines) + count_calls lists

pub record FitsFilters (chests : List ℕ) (lists : List (List Line)) : Type 0 where
  pub each : EachFit chests 0 lists
  pub few : count_calls lists ≤ MAX_CALLS
