-- What may happen to a world, and the world after it.
use Rattle.std.specs.Prelude.{◌≡◌, ℕ, ◌<◌, ◌≤◌, ◌==◌, nat_lt, if◌then◌else◌, List, [], ◌∷◌, ◌++◌, length, remove}
use Rattle.std.specs.List.{AllByRecursion}
use Rattle.std.specs.Prelude.{slice_get, Option, Some, None, option_map, unwrap_or}
use Rattle.spec_document.specs.Document.{Document}
use Rattle.spec_document.specs.Picture.{project}
use Rattle.spec_cache.specs.declared.Finished.{Finished}
use Rattle.spec_cache.specs.declared.Finished.TheVariants.{Gone}
use Rattle.spec_cache.specs.Slots.{Slot, Shown, fill_slot, change_slot}
use Rattle.spec_cache.specs.Cache.{Cache, Place, kept, change_stack, next_place, after_take, finish, install}
use Rattle.spec_document.specs.Limits.{AreBytes}
use Rattle.spec_history.specs.Machine.{Call, edit, undo, redo, tile, peek, top, Reply, tile_of, stale, version_shown}
use Rattle.spec_history.specs.Machine.{saved, save_fault, save_memory, history_full, State, Saving, latest, answer}
use Rattle.spec_history.specs.Calls.{IsCall}
use Rattle.spec_history.specs.History.{asked, starts, ends, Entry, next_index, after_entry, is_changed}
use Rattle.spec_world.specs.declared.SaveEnd.{SaveEnd}
use Rattle.spec_world.specs.declared.SaveEnd.TheVariants.{Done, Fault, Memory}
use Rattle.spec_world.specs.World.{World, Job, document_now, result_of, free_entries, cache_after}

-- ---- calls

-- a peek shows what is kept, where that is as late as what was seen
abbrev pub peek_reply : Option Shown → (seen : ℕ) → Reply
peek_reply None seen = stale None seen
peek_reply (Some shown) seen = if nat_lt shown.version seen then stale (Some shown.version) seen else tile_of shown.version

-- the second reply, where the plain one shows a tile, and else the plain one
abbrev pub where_tile : (plain shown : Reply) → Reply
where_tile plain shown = unwrap_or (option_map (λ version. shown) (version_shown plain)) plain

-- The machine's reply; for a peek of a tile that is there, by what is kept of it.
abbrev pub reply_to : Document → World → Call → (seen : ℕ) → (tables : List (List ℕ)) → Reply
reply_to base w (peek stack at) seen tables =
    where_tile (answer base w.state (peek stack at) tables).reply (peek_reply (kept w.cache stack at (latest w.state)) seen)
reply_to base w (edit guard edits) seen tables = (answer base w.state (edit guard edits) tables).reply
reply_to base w (undo named) seen tables = (answer base w.state (undo named) tables).reply
reply_to base w redo seen tables = (answer base w.state redo tables).reply
reply_to base w (tile stack at) seen tables = (answer base w.state (tile stack at) tables).reply
reply_to base w top seen tables = (answer base w.state top tables).reply

-- a slot that a tile call showed is clean, and one that was clean stays as it was
abbrev pub show_slot : (picture : List ℕ) → Slot → Slot
show_slot picture s = if s.marked then fill_slot picture s else s

-- the kept pictures after a call that showed a tile, if any
abbrev pub cache_shown : Document → State → (version : Option ℕ) → Call → Cache → Cache
cache_shown base s None call cache = cache
cache_shown base s (Some version) (edit guard edits) cache = cache
cache_shown base s (Some version) (undo named) cache = cache
cache_shown base s (Some version) redo cache = cache
cache_shown base s (Some version) (tile stack at) cache =
    change_stack stack (change_slot at (show_slot (project (document_now base s) stack at))) cache
cache_shown base s (Some version) (peek stack at) cache = cache
cache_shown base s (Some version) top cache = cache

-- the kept pictures after a call and its reply
abbrev pub cache_of : Document → (old new : State) → Call → Reply → Cache → Cache
cache_of base old new call reply cache =
    if is_changed reply then cache_after base old new cache else cache_shown base old (version_shown reply) call cache

-- the world with one entry more
abbrev pub with_entry : Document → World → Entry → World
with_entry base w e = record w { entries = w.entries ++ e ∷ []; state = after_entry base w.state e }

abbrev pub with_call : Document → World → (session : ℕ) → Call → (tables : List (List ℕ)) → Reply → World
with_call base w session call tables reply =
    let e : Entry = record { session = session; index = next_index w.entries session; kind = asked call tables; reply = reply } in
    let next = with_entry base w e in
    record next { cache = cache_of base w.state next.state call reply w.cache }

-- a reply, and the world after it
pub record Outcome : Type 0 where
  pub reply : Reply
  pub world : World

-- A session calls. It has seen a version, and its filters answered these tables; a group that is refused asks none.
abbrev pub submit : Document → World → (session : ℕ) → Call → (seen : ℕ) → (tables : List (List ℕ)) → Outcome
submit base w session call seen tables =
    let reply = reply_to base w call seen tables in
    let done : Outcome = record { reply = reply; world = with_call base w session call tables reply } in
    if free_entries w == 0 then record { reply = history_full; world = w } else done

-- ---- jobs

abbrev pub add_job : Option Place → (version : ℕ) → List Job → List Job
add_job None version jobs = jobs
add_job (Some place) version jobs = jobs ++ record { stack = place.stack; at = place.at; version = version } ∷ []

-- the next marked slot becomes a job of the latest version
abbrev pub take_job : World → World
take_job w = record w { cache = after_take w.cache; jobs = add_job (next_place w.cache) (latest w.state) w.jobs }

abbrev pub place_of : Job → Place
place_of job = record { stack = job.stack; at = job.at }

abbrev pub finish_of : World → Option Job → Finished
finish_of w None = Gone
finish_of w (Some job) = finish w.cache (place_of job) job.version

-- what becomes of a job that is out
abbrev pub finish_answer : World → (number : ℕ) → Finished
finish_answer w number = finish_of w (slice_get w.jobs number)

abbrev pub cache_with_result : Document → World → Option Job → Cache
cache_with_result base w None = w.cache
cache_with_result base w (Some job) = install (place_of job) job.version (result_of base w.state job) w.cache

-- its result is handed in
abbrev pub finish_job : Document → World → (number : ℕ) → World
finish_job base w number = record w { cache = cache_with_result base w (slice_get w.jobs number); jobs = remove w.jobs number }

-- ---- saves

abbrev pub save_starts : Document → World → (session : ℕ) → World
save_starts base w session =
    with_entry base w (record {
      session = session;
      index = next_index w.entries session;
      kind = starts;
      reply =
          saved (latest w.state);
    })

-- A save starts, unless one is out or fewer than two entries are free; then nothing changes.
abbrev pub start_where : Document → World → (session : ℕ) → Option Saving → World
start_where base w session (Some out) = w
start_where base w session None = let next = save_starts base w session in if nat_lt (free_entries w) 2 then w else next

abbrev pub begin_save : Document → World → (session : ℕ) → World
begin_save base w session = start_where base w session w.state.out

abbrev pub end_reply : SaveEnd → (version : ℕ) → Reply
end_reply Done version = saved version
end_reply Fault version = save_fault version
end_reply Memory version = save_memory version

abbrev pub end_where : Document → World → SaveEnd → Option Saving → World
end_where base w how None = w
end_where base w how (Some out) =
    with_entry base w (record { session = out.session; index = out.index; kind = ends; reply = end_reply how out.version })

abbrev pub end_save : Document → World → SaveEnd → World
end_save base w how = end_where base w how w.state.out

-- ---- events

pub data Event : Type 0 where
  submits : (session : ℕ) (call : Call) (seen : ℕ) (tables : List (List ℕ)) → Event
  takes : Event
  finishes : (number : ℕ) → Event
  begins_save : (session : ℕ) → Event
  ends_save : (session : ℕ) (how : SaveEnd) → Event

abbrev pub IsOutOf : Option Saving → (session : ℕ) → Type 0
IsOutOf None session = ⊥
IsOutOf (Some out) session = session ≡ out.session

-- A session has seen no version that is not there, its call is within its type, and its filters answer bytes; a job that comes back
-- is out, and a save is ended by its own session.
abbrev pub MayHappen : World → Event → Type 0
MayHappen w (submits session call seen tables) = (seen ≤ latest w.state) × IsCall call × AllByRecursion AreBytes tables
MayHappen w takes = Unit {0}
MayHappen w (finishes number) = number < length w.jobs
MayHappen w (begins_save session) = Unit {0}
MayHappen w (ends_save session how) = IsOutOf w.state.out session

abbrev pub after : Document → World → Event → World
after base w (submits session call seen tables) = (submit base w session call seen tables).world
after base w takes = take_job w
after base w (finishes number) = finish_job base w number
after base w (begins_save session) = begin_save base w session
after base w (ends_save session how) = end_save base w how

-- a list of events, one after another
abbrev pub Happen : Document → World → List Event → World → Type 0
Happen base old [] new = new ≡ old
Happen base old (event ∷ events) new = MayHappen old event × Happen base (after base old event) events new
