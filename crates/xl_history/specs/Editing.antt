-- A core as contracts see it: a document's history and the shelf on which it is saved.
use Rattle.std.specs.Prelude.{◌≡◌, ℕ, ◌+◌, ◌<◌, ◌≤◌, true, List, [], ◌∷◌, ◌++◌, length, slice_get, Option, Some, None, IsSome}
use Rattle.spec_document.specs.Grid.{is_on_grid}
use Rattle.spec_document.specs.Picture.{project}
use Rattle.spec_cache.specs.declared.Finished.{Finished}
use Rattle.spec_cache.specs.Cache.{Cache, after_take, install}
use Rattle.spec_history.specs.Machine.{Call, Reply, saved, Saving, has_stack}
use Rattle.spec_history.specs.History.{Entry, starts, ends, replay, next_index, document_of}
use Rattle.spec_world.specs.World.{World, Job}
use Rattle.spec_world.specs.Events.{submit, Event, finishes, after, finish_answer, end_reply}
use Rattle.spec_world.specs.declared.SaveEnd.{SaveEnd}
use Rattle.xl_ports.specs.State.{ShelfState}
use Rattle.spec_saves.specs.Names.{version_out}
use Rattle.spec_saves.specs.Shelf.{ShelfIsRight}
use Rattle.spec_saves.specs.Returns.{Returns}
use Rattle.spec_history.specs.declared.TheConstants.{MAX_ENTRIES}
use Rattle.spec_standing.specs.History.{History, version, document}
use Rattle.spec_standing.specs.Now.{world_of}
use Rattle.xl_desk.specs.Places.{place_done}
use Rattle.xl_compose.specs.declared.clean.Done.{Done}
use Rattle.xl_history.specs.declared.saving.Begun.{Begun}
use Rattle.xl_history.specs.declared.saving.Begun.TheVariants.{Snapshot, Out, Full}

-- The history and the pictures that are kept; the shelf as the document was opened, as each save's start has handed it out, and as it
-- is where no save is out; and for how many calls, undos and redos among them, there is room without more memory.
pub record Editing (K : Type 0) : Type 0 where
  pub history : History
  pub cache : Cache
  pub opening : K
  pub handed : List K
  pub shelf : Option K
  pub spare : ℕ

-- ---- the world

-- the history and the kept pictures as a world, apart from the jobs that are out
abbrev pub world : {K : Type 0} → Editing K → World
world c = world_of c.history.base c.history.entries c.cache

-- and with these jobs out
abbrev pub world_with : {K : Type 0} → Editing K → (jobs : List Job) → World
world_with c jobs = record (world c) { jobs = jobs }

-- where these jobs are out, the event leads from the world of the one core to that of the other, with the jobs that are out then
abbrev pub HappensWith : {K : Type 0} → (jobs : List Job) → (old : Editing K) → Event → (new : Editing K) → Type 0
HappensWith jobs old event new =
    let next = after old.history.base (world_with old jobs) event in
    (new.history.base ≡ old.history.base) × (world_with new next.jobs ≡ next)

-- so it is, whatever jobs are out
abbrev pub Happens : {K : Type 0} → (old : Editing K) → Event → (new : Editing K) → Type 0
Happens old event new = (jobs : List Job) → HappensWith jobs old event new

-- a session's call is the event of the world
abbrev pub IsSubmitted : {K : Type 0} → (old : Editing K) → (session : ℕ) → Call → (seen : ℕ) → (tables : List (List ℕ)) → Reply
    → (new : Editing K) → Type 0
IsSubmitted old session call seen tables reply new =
    let o = submit old.history.base (world old) session call seen tables in
    (new.history.base ≡ old.history.base) × (reply ≡ o.reply) × (world new ≡ o.world)

-- ---- jobs

-- the next marked slot is taken
abbrev pub taken : {K : Type 0} → Editing K → Editing K
taken c = record c { cache = after_take c.cache }

-- the picture is that of its version, which is there, of a stack that was there then and a tile of the canvas
pub record IsPictureOf (h : History) (done : Done) : Type 0 where
  pub version : done.version ≤ version h
  pub has : has_stack (document_of h.base h.entries done.version) done.node.0 ≡ true
  pub on_grid : is_on_grid h.base.width h.base.height done.at ≡ true
  pub picture : done.picture ≡ project (document_of h.base h.entries done.version) done.node.0 done.at

-- the job that it is the picture of
abbrev pub job_done : Done → Job
job_done done = record { stack = done.node.0; at = done.at; version = done.version }

-- A picture that is handed in is the result of its job, whatever jobs are out beside that, and is answered as that event is.
abbrev pub IsFinished : {K : Type 0} → (old : Editing K) → Done → Finished → (new : Editing K) → Type 0
IsFinished old done result new =
    (jobs : List Job) (number : ℕ) → slice_get jobs number ≡ Some (job_done done)
    → (result ≡ finish_answer (world_with old jobs) number) × HappensWith jobs old (finishes number) new

-- it is handed in
abbrev pub handed_in : {K : Type 0} → Editing K → Done → Editing K
handed_in c done = record c { cache = install (place_done done) done.version done.picture c.cache }

-- ---- shelves

-- the last of some shelves, or the one before them
abbrev pub last_of : {K : Type 0} → K → List K → K
last_of first [] = first
last_of first (k ∷ ks) = last_of k ks

-- the shelf as it was handed out last
abbrev pub last_handed : {K : Type 0} → Editing K → K
last_handed c = last_of c.opening c.handed

module _ {K : Type 0} (see : K → ShelfState) where
  -- this shelf is right after the history
  abbrev pub IsRight : Editing K → K → Type 0
  IsRight c k = ShelfIsRight (see c.opening) c.history.base c.history.entries (see k)

  -- it comes back right from the save that is out
  abbrev pub ComesBack : Editing K → SaveEnd → K → Type 0
  ComesBack c how k = Returns (see c.opening) (see (last_handed c)) c.history.base c.history.entries how (see k)

-- no shelf changed hands
pub record KeepsShelf {K : Type 0} (old new : Editing K) : Type 0 where
  pub opening : new.opening ≡ old.opening
  pub handed : new.handed ≡ old.handed
  pub shelf : new.shelf ≡ old.shelf

-- all is as before, and there is no less room
pub record IsAsBefore {K : Type 0} (old new : Editing K) : Type 0 where
  pub history : new.history ≡ old.history
  pub cache : new.cache ≡ old.cache
  pub opening : new.opening ≡ old.opening
  pub handed : new.handed ≡ old.handed
  pub shelf : new.shelf ≡ old.shelf
  pub spare : old.spare ≤ new.spare

-- ---- saves

abbrev pub start_of : History → (session : ℕ) → Entry
start_of h session = record { session = session; index = next_index h.entries session; kind = starts; reply = saved (version h) }

-- the save that is out, if any
abbrev pub out_of : History → Option Saving
out_of h = (replay h.base h.entries).out

abbrev pub index_out : Option Saving → ℕ
index_out None = 0
index_out (Some out) = out.index

abbrev pub end_of : History → (session : ℕ) → Reply → Entry
end_of h session reply = record { session = session; index = index_out (out_of h); kind = ends; reply = reply }

abbrev pub with_entry : History → Entry → History
with_entry h e = record h { entries = h.entries ++ e ∷ [] }

-- the shelf is handed out, and the start is the last entry
abbrev pub with_start : {K : Type 0} → Editing K → (session : ℕ) → K → (spare : ℕ) → Editing K
with_start c session k spare =
    record c {
      history = with_entry c.history (start_of c.history session);
      handed = c.handed ++ k ∷ [];
      shelf = None;
      spare =
          spare;
    }

-- the shelf is there again, and the end is the last entry
abbrev pub with_end : {K : Type 0} → Editing K → (session : ℕ) → Reply → K → (spare : ℕ) → Editing K
with_end c session reply k spare =
    record c { history = with_entry c.history (end_of c.history session reply); shelf = Some k; spare = spare }

-- A save begins with the last version, its document and the shelf, where that is in and two entries are free.
abbrev pub Begins : {K : Type 0} → (old : Editing K) → (session : ℕ) → Begun K → (new : Editing K) → Type 0
Begins old session (Snapshot v d k) new =
    (v ≡ version old.history)
    × (d ≡ document old.history)
    × (old.shelf ≡ Some k)
    × (length old.history.entries + 2 ≤ MAX_ENTRIES)
    × (new ≡ with_start old session k new.spare)
Begins old session Out new = (old.shelf ≡ None) × IsAsBefore old new
Begins old session Full new = IsSome old.shelf × (MAX_ENTRIES < length old.history.entries + 2) × IsAsBefore old new

-- A save ends with the version that it started with.
abbrev pub Ends : {K : Type 0} → (old : Editing K) → (session : ℕ) → SaveEnd → K → Reply → (new : Editing K) → Type 0
Ends old session how k reply new =
    (reply ≡ end_reply how (version_out (out_of old.history))) × (new ≡ with_end old session reply k new.spare)

-- of a shelf that is handed out
abbrev pub HandsOut : {K : Type 0} → (K → Type 0) → Begun K → Type 0
HandsOut P (Snapshot v d k) = P k
HandsOut P Out = Unit {0}
HandsOut P Full = Unit {0}
