-- The versions that printed peeks show, and the documents of those that were made.
use Rattle.std.specs.Prelude.{◌≡◌, ℕ, ◌+◌, ◌≤◌, Bool, true, false, nat_lt, min, if◌then◌else◌, List, [], ◌∷◌, ◌++◌, length}
use Rattle.std.specs.Prelude.{slice_get, Option, Some, None, unwrap_or, IfSome}
use Rattle.std.specs.List.{AllByRecursion}
use Rattle.spec_document.specs.Document.{Document}
use Rattle.spec_history.specs.declared.TheConstants.{MAX_ENTRIES}
use Rattle.spec_history.specs.Machine as machine
use Rattle.spec_history.specs.Machine.{Call, Reply, State, latest, document_at}
use Rattle.spec_script.specs.Script as lines
use Rattle.spec_script.specs.Script.{Line}
use Rattle.spec_text.specs.declared.OrderWord.{OrderWord}
use Rattle.spec_audit.specs.Output.{Printed}
use Rattle.spec_audit.specs.Walk.{printed_at}
use Rattle.xl_judging.specs.Calls.{line_in}

-- ---- which versions are shown

abbrev pub version_shown : Reply → Option ℕ
version_shown (machine.tile_of version) = Some version
version_shown (machine.changed version group next) = None
version_shown (machine.refused index cause) = None
version_shown (machine.moved now) = None
version_shown machine.nothing_to_undo = None
version_shown machine.nothing_to_redo = None
version_shown (machine.not_top group) = None
version_shown (machine.stale have seen) = None
version_shown (machine.no_stack node) = None
version_shown machine.outside_tile = None
version_shown (machine.top_is group version) = None
version_shown (machine.saved version) = None
version_shown (machine.save_fault version) = None
version_shown (machine.save_memory version) = None
version_shown machine.history_full = None

abbrev pub version_peeked : Call → Reply → Option ℕ
version_peeked (machine.edit guard edits) reply = None
version_peeked (machine.undo named) reply = None
version_peeked machine.redo reply = None
version_peeked (machine.tile stack at) reply = None
version_peeked (machine.peek stack at) reply = version_shown reply
version_peeked machine.top reply = None

-- the version that a printed reply shows, where it is that to a peek
abbrev pub version_named : Line → Reply → Option ℕ
version_named (lines.call c) reply = version_peeked c reply
version_named lines.save reply = None
version_named (lines.forget slot) reply = None

-- ---- which are wanted

abbrev pub is_wanted : List Bool → (version : ℕ) → Bool
is_wanted wanted version = unwrap_or (slice_get wanted version) false

-- the version, if any, is wanted; no history has versions past these
abbrev pub WantsIfAny : List Bool → Option ℕ → Type 0
WantsIfAny wanted named = IfSome named (λ v. v ≤ MAX_ENTRIES → is_wanted wanted v ≡ true)

-- all that is wanted in the old table is wanted in the new one
abbrev pub WantsMore : (old new : List Bool) → Type 0
WantsMore old new = (v : ℕ) → is_wanted old v ≡ true → is_wanted new v ≡ true

abbrev pub WantsOfWord : (calls : List (List Line)) → (replies : List (List Printed)) → List Bool → OrderWord → Type 0
WantsOfWord calls replies wanted w = WantsIfAny wanted (version_named (line_in calls w) (printed_at replies w).reply)

-- each version that is shown for one of these words is wanted
abbrev pub AreWanted : (calls : List (List Line)) → (replies : List (List Printed)) → List Bool → List OrderWord → Type 0
AreWanted calls replies wanted ws = AllByRecursion (WantsOfWord calls replies wanted) ws

-- ---- their documents

abbrev pub share_at : List (Option Document) → (version : ℕ) → Option Document
share_at shares version = unwrap_or (slice_get shares version) None

-- a share of the next version, where that is wanted; past the last one that is wanted nothing is kept
abbrev pub with_share : (wanted : List Bool) → Document → List (Option Document) → List (Option Document)
with_share wanted d shares =
    let share : Option Document = if is_wanted wanted (length shares) then Some d else None in
    if nat_lt (length shares) (length wanted) then shares ++ share ∷ [] else shares

-- the shares after a call that has made a version or none
abbrev pub shares_after : (changed : Bool) → (wanted : List Bool) → Document → List (Option Document) → List (Option Document)
shares_after changed wanted d shares = if changed then with_share wanted d shares else shares

-- of each version that is wanted and was made there is a share
pub record HasVersions (base : Document) (s : State) (wanted : List Bool) (shares : List (Option Document)) : Type 0 where
  pub reach : length shares ≡ min (length wanted) (latest s + 1)
  pub each : (v : ℕ) → v ≤ latest s → is_wanted wanted v ≡ true → share_at shares v ≡ Some (document_at base s v)
