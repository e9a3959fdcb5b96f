-- What holds of every world that can come about.
use Rattle.std.specs.Prelude.{◌≡◌, ℕ, ◌≤◌, true, false, if◌then◌else◌, List, Option, Some, None, IsSomeAnd, IfSome}
use Rattle.std.specs.List.{AllByRecursion}
use Rattle.spec_document.specs.declared.TileAt.{TileAt}
use Rattle.spec_document.specs.Grid.{is_on_grid}
use Rattle.spec_document.specs.Document.{Document}
use Rattle.spec_document.specs.Picture.{project}
use Rattle.spec_cache.specs.declared.Finished.TheVariants.{Installed}
use Rattle.spec_cache.specs.Slots.{Slot, mark_slot, blank_slot}
use Rattle.spec_cache.specs.Cache as cache
use Rattle.spec_cache.specs.Cache.{IsCache, has_slots, slot_of, finish}
use Rattle.spec_history.specs.Machine.{Call, State, latest, document_at, has_stack}
use Rattle.spec_history.specs.History.{replay, is_changed}
use Rattle.spec_history.specs.Kept as history
use Rattle.spec_history.specs.Kept.{IsLegal}
use Rattle.spec_history.specs.Marks.{marks, marked_at}
use Rattle.spec_world.specs.World.{World, Job, first_world, document_now, result_of}
use Rattle.spec_world.specs.Events.{Event, Happen, place_of, submit}

-- ---- the document

-- The state is what the entries come to from the opened document.
abbrev pub IsReplayed : Document → World → Type 0
IsReplayed base w = w.state ≡ replay base w.entries

-- ---- slots

-- a stack has slots exactly where it is one of the latest version
abbrev pub StacksHaveSlots : Document → World → Type 0
StacksHaveSlots base w = (stack : ℕ) → has_slots w.cache stack ≡ has_stack (document_now base w.state) stack

-- something holds of each slot of each stack
abbrev pub EachSlot : World → ((stack : ℕ) → TileAt → Slot → Type 0) → Type 0
EachSlot w P = (stack : ℕ) (at : TileAt) (slot : Slot) → slot_of w.cache stack at ≡ Some slot → P stack at slot

-- each slot's last mark is that of the last version that marks it
abbrev pub MarksAreRight : Document → World → Type 0
MarksAreRight base w = EachSlot w (λ stack at slot. slot.marked_at ≡ marked_at base w.state stack at)

-- the picture of a clean slot is that of the latest version
abbrev pub CleanSlotsAreRight : Document → World → Type 0
CleanSlotsAreRight base w =
    EachSlot w (λ stack at slot. slot.marked ≡ false → slot.picture ≡ Some (project (document_now base w.state) stack at))

-- the picture is that of this version, at which its stack was there
pub record IsPictureAt (base : Document) (s : State) (stack : ℕ) (at : TileAt) (version : ℕ) (picture : List ℕ) : Type 0 where
  pub there : version ≤ latest s
  pub has : has_stack (document_at base s version) stack ≡ true
  pub is : picture ≡ project (document_at base s version) stack at

-- the picture of a marked slot is that of the version it was good to
abbrev pub MarkedSlotsAreRight : Document → World → Type 0
MarkedSlotsAreRight base w =
    EachSlot w (λ stack at slot. slot.marked ≡ true
    → IfSome slot.picture (λ picture. IsPictureAt base w.state stack at slot.good_to picture))

-- what is kept of a tile is no older than what its last tile call left
abbrev pub KeepsEnough : Document → World → Type 0
KeepsEnough base w =
    (stack : ℕ) (at : TileAt) → IfSome (history.kept base w.entries stack at) (λ least.
    IsSomeAnd (cache.kept w.cache stack at (latest w.state)) (λ shown. least ≤ shown.version))

-- ---- jobs

-- a job out is of a version that is there, and of a stack and a tile that were there then
pub record IsJob (base : Document) (s : State) (job : Job) : Type 0 where
  pub version : job.version ≤ latest s
  pub has : has_stack (document_at base s job.version) job.stack ≡ true
  pub on_grid : is_on_grid base.width base.height job.at ≡ true

-- a result is installed only where the tile shows the same still
abbrev pub InstallsRight : Document → State → Job → cache.Cache → Type 0
InstallsRight base s job kept =
    finish kept (place_of job) job.version ≡ Installed → result_of base s job ≡ project (document_now base s) job.stack job.at

-- ---- all of it

pub record IsRight (base : Document) (w : World) : Type 0 where
  pub legal : IsLegal base w.entries
  pub replayed : IsReplayed base w
  pub stacks : StacksHaveSlots base w
  pub slots : IsCache base.width base.height w.cache
  pub marks : MarksAreRight base w
  pub clean : CleanSlotsAreRight base w
  pub marked : MarkedSlotsAreRight base w
  pub enough : KeepsEnough base w
  pub jobs : AllByRecursion (IsJob base w.state) w.jobs
  pub installs : AllByRecursion (λ job. InstallsRight base w.state job w.cache) w.jobs

-- whatever happens from the start on, the world is right
abbrev pub WorldsAreRight : Document → Type 0
WorldsAreRight base = (events : List Event) (w : World) → Happen base (first_world base) events w → IsRight base w

-- ---- calls beside jobs

-- a call leaves the jobs that are out, and is answered whatever they are
abbrev pub CallsLeaveJobs : Document → Type 0
CallsLeaveJobs base =
    (w : World) (jobs : List Job) (session : ℕ) (call : Call) (seen : ℕ) (tables : List (List ℕ)) →
    let alone = submit base w session call seen tables in
    submit base (record w { jobs = jobs }) session call seen tables
    ≡ record { reply = alone.reply; world = record alone.world { jobs = jobs } }

-- ---- which slots a version marks

-- what a version makes of a slot
abbrev pub slot_after : Document → State → (stack : ℕ) → TileAt → Slot → Slot
slot_after base s stack at slot = if marks base s stack at (latest s) then mark_slot (latest s) slot else slot

-- After a version, each slot of a stack that was there before is marked where that version marks it, and is as before else; each slot
-- of a stack that came is blank.
abbrev pub SlotIsMarked : Document → (s : State) → (stack : ℕ) → TileAt → Option Slot → (new : Slot) → Type 0
SlotIsMarked base s stack at None new = new ≡ blank_slot (latest s)
SlotIsMarked base s stack at (Some old) new = new ≡ slot_after base s stack at old

abbrev pub MarksExactly : Document → (old new : World) → Type 0
MarksExactly base old new = EachSlot new (λ stack at slot. SlotIsMarked base new.state stack at (slot_of old.cache stack at) slot)

-- a call of a right world that makes a version marks exactly the slots that this version marks
abbrev pub CallsMarkExactly : Document → Type 0
CallsMarkExactly base =
    (w : World) (session : ℕ) (call : Call) (seen : ℕ) (tables : List (List ℕ)) → IsRight base w
    → is_changed (submit base w session call seen tables).reply ≡ true
    → MarksExactly base w (submit base w session call seen tables).world
