-- A world: the machine with its history, the pictures that are kept, and the jobs that are out.
use Rattle.std.specs.Prelude.{ℕ, ◌+◌, ◌-◌, not, List, [], ◌∷◌, ◌++◌, map, filter, fold, length, slice_get, Option, Some, None}
use Rattle.spec_document.specs.declared.Rect.{Rect}
use Rattle.spec_document.specs.declared.TileAt.{TileAt}
use Rattle.spec_document.specs.Forest.{none, leaf, group}
use Rattle.spec_document.specs.Document.{Document, Nodes}
use Rattle.spec_document.specs.Picture.{project}
use Rattle.spec_history.specs.Damage.{group_damage}
use Rattle.spec_cache.specs.Slots.{mark_slots}
use Rattle.spec_cache.specs.Cache.{Cache, Held, no_slots, add_stack}
use Rattle.spec_history.specs.Machine.{State, Saving, Cause, latest, document_at, initial, has_stack}
use Rattle.spec_history.specs.History.{Entry}
use Rattle.spec_history.specs.declared.TheConstants.{MAX_ENTRIES}

-- a tile of a stack that someone composes, of the version at which it was taken
pub record Job : Type 0 where
  pub stack : ℕ
  pub at : TileAt
  pub version : ℕ

-- the save that is out stands in the machine's state
pub record World : Type 0 where
  pub entries : List Entry
  pub state : State
  pub cache : Cache
  pub jobs : List Job

-- the document of the latest version
abbrev pub document_now : Document → State → Document
document_now base s = document_at base s (latest s)

-- what a job comes to
abbrev pub result_of : Document → State → Job → List ℕ
result_of base s job = project (document_at base s job.version) job.stack job.at

-- ---- the stacks of a document

abbrev pub group_ids : Nodes → List ℕ
group_ids none = []
group_ids (leaf id l under) = group_ids under
group_ids (group id g children under) = id ∷ (group_ids children ++ group_ids under)

-- the image, and the groups
abbrev pub stack_ids : Document → List ℕ
stack_ids d = filter (has_stack d) (0 ∷ group_ids d.nodes)

-- the stacks come, all their slots marked at a version; the canvas is the same in all documents of a history
abbrev pub add_stacks : (stacks : List ℕ) → (base : Document) → (version : ℕ) → Cache → Cache
add_stacks stacks base version cache = fold (λ c stack. add_stack stack base.width base.height version c) cache stacks

-- ---- the start

-- the world as a document is opened: every slot is marked at version 0 and has no picture
abbrev pub first_world : Document → World
first_world base = record { entries = []; state = initial base; cache = add_stacks (stack_ids base) base 0 no_slots; jobs = [] }

-- ---- how many entries are free

-- a save that is out will make one entry more, its end
abbrev pub entries_owed : Option Saving → ℕ
entries_owed None = 0
entries_owed (Some out) = 1

abbrev pub free_entries : World → ℕ
free_entries w = MAX_ENTRIES - (length w.entries + entries_owed w.state.out)

-- ---- the slots after a change

abbrev pub rects_of : Option Cause → (stack : ℕ) → List Rect
rects_of None stack = []
rects_of (Some c) stack = group_damage c.old c.edits c.tables stack

abbrev pub mark_held : Option Cause → (version : ℕ) → Held → Held
mark_held cause version h = record h { slots = mark_slots (rects_of cause h.stack) version h.slots }

-- Those of a group that went are dropped, those of a stack that stays are marked where the damage meets their tiles, and those of a
-- group that came are blank.
abbrev pub cache_between : (base old new : Document) → Option Cause → (version : ℕ) → Cache → Cache
cache_between base old new cause version cache =
    let stay = filter (λ h. has_stack new h.stack) cache.held in
    let came = filter (λ stack. not (has_stack old stack)) (stack_ids new) in
    add_stacks came base version (record cache { held = map (mark_held cause version) stay })

-- the same, after the machine made a version
abbrev pub cache_after : Document → (old new : State) → Cache → Cache
cache_after base old new cache =
    cache_between base (document_now base old) (document_now base new) (slice_get new.causes (latest new - 1)) (latest new) cache
