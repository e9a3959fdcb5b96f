-- What stands now, as far as calls ask for it.
use Rattle.std.specs.Prelude.{◌≡◌, ℕ, ◌+◌, ◌-◌, ◌^◌, ◌≤◌, ◌<◌, Bool, not, ◌&&◌, if◌then◌else◌, List, [], ◌∷◌, true, false, length}
use Rattle.std.specs.Prelude.{map, slice_index, slice_get, Option, Some, None, IsSomeAnd, IfSome, Result, Ok, Err}
use Rattle.std.specs.List.{AllByRecursion}
use Rattle.spec_document.specs.declared.TileAt.{TileAt}
use Rattle.spec_document.specs.Grid.{is_on_grid}
use Rattle.spec_document.specs.Forest.{ids}
use Rattle.spec_document.specs.Document.{Document}
use Rattle.spec_document.specs.Limits.{IsDocument}
use Rattle.spec_document.specs.Ids.{next_id}
use Rattle.spec_document.specs.Picture.{project}
use Rattle.spec_edit.specs.Edit.{Edit}
use Rattle.spec_edit.specs.Apply.{At, Refused, apply_group}
use Rattle.spec_damage.specs.Damage.{Pair}
use Rattle.spec_cache.specs.Slots.{Slot, Shown, change_slot}
use Rattle.spec_cache.specs.Cache.{Cache, Place, no_slots, slot_of, change_stack, kept}
use Rattle.spec_history.specs.Machine as machine
use Rattle.spec_history.specs.Machine.{Call, Reply, changed, refused, moved, nothing_to_undo, nothing_to_redo, not_top}
use Rattle.spec_history.specs.Machine.{tile_of, stale, no_stack, outside_tile, top_is, saved, save_fault, save_memory}
use Rattle.spec_history.specs.Machine.{history_full, version_shown, names, push, Cause, State, Done, latest, document_at, has_stack}
use Rattle.spec_history.specs.History.{Entry, replay, next_index}
use Rattle.spec_history.specs.Kept.{IsLegal}
use Rattle.spec_history.specs.declared.TheConstants.{MAX_ENTRIES}
use Rattle.spec_world.specs.World.{World, entries_owed, stack_ids, add_stacks}
use Rattle.spec_world.specs.Events.{peek_reply, show_slot}
use Rattle.spec_world.specs.Standing.{IsStanding}
use Rattle.spec_standing.specs.Change.{IsCacheOf, gone_along}
use Rattle.spec_standing.specs.Group.{is_allowed, damage_along}
use Rattle.spec_standing.specs.Steps.{Step, change_of, stepped}

-- The last document, the groups that can be undone and redone with the steps over them, the next one first, the next numbers, and the
-- pictures that are kept.
pub record Now : Type 0 where
  pub document : Document
  pub undo : List (ℕ × Step)
  pub redo : List (ℕ × Step)
  pub next_id : ℕ
  pub next_group : ℕ
  pub version : ℕ
  pub cache : Cache

abbrev pub first_now : Document → Now
first_now d = record {
  document = d;
  undo = [];
  redo = [];
  next_id = next_id d;
  next_group = 1;
  version = 0;
  cache =
      add_stacks (stack_ids d) d 0 no_slots;
}

-- what the next edit begins with
abbrev pub at_now : Now → At
at_now now = record { document = now.document; next = now.next_id }

-- the call is a group of edits of which none is refused, and its guard has not moved
abbrev pub accepts : Now → Call → Bool
accepts now (machine.edit guard edits) = names guard now.version && is_allowed (at_now now) edits
accepts now (machine.undo named) = false
accepts now machine.redo = false
accepts now (machine.tile stack at) = false
accepts now (machine.peek stack at) = false
accepts now machine.top = false

-- ---- replies

-- a reply, and what stands after it
pub record Response : Type 0 where
  pub reply : Reply
  pub now : Now

abbrev pub Gives : Response → Reply → (new : Now) → Type 0
Gives response reply new = (reply ≡ response.reply) × (new ≡ response.now)

-- a reply that changes nothing
abbrev pub stays : Now → Reply → Response
stays now reply = record { reply = reply; now = now }

-- what stands is the next version, which this group, or its undo or redo, has left
abbrev pub next_version : Now → (group : ℕ) → Response
next_version now group =
    record { reply = changed (now.version + 1) group now.next_id; now = record now { version = now.version + 1 } }

-- the pictures that are kept when a step was taken
abbrev pub kept_after : Now → Step → Cache
kept_after old s = gone_along (change_of s) (old.version + 1) old.cache

-- the step that a group of edits takes
abbrev pub step_made : Now → At → (damage : List Pair) → Step
step_made old at damage = record { from = old.document; to = at.document; damage = damage }

-- a group that was made can be undone, and nothing can be redone any more
abbrev pub accepted : Now → At → (damage : List Pair) → Response
accepted old at damage =
    let mid : Now = record {
      document = at.document;
      undo = push (old.next_group, stepped (step_made old at damage)) old.undo;
      redo = [];
      next_id = at.next;
      next_group = old.next_group + 1;
      version = old.version;
      cache = kept_after old (step_made old at damage);
    } in
    next_version mid old.next_group

abbrev pub made_now : Now → (damage : List Pair) → Result At Refused → Response
made_now old damage (Err r) = stays old (refused r.index r.cause)
made_now old damage (Ok at) = accepted old at damage

-- a group of edits, whose guard may have moved, made with the tables of its filters, or refused
abbrev pub edited : Now → (guard : Option ℕ) → List Edit → (tables : List (List ℕ)) → Response
edited old guard edits tables =
    let made = made_now old (damage_along (at_now old) edits tables) (apply_group (at_now old) edits tables) in
    if names guard old.version then made else stays old (moved old.version)

-- the document before a group stands again, which can be redone
abbrev pub taken_back : Now → (group : ℕ) → Step → List (ℕ × Step) → Response
taken_back old group s ss =
    next_version (record old { document = s.to; undo = ss; redo = (group, stepped s) ∷ old.redo; cache = kept_after old s }) group

abbrev pub undone_of : Now → (named : Option ℕ) → List (ℕ × Step) → Response
undone_of old named [] = stays old nothing_to_undo
undone_of old named (s ∷ ss) = if names named s.0 then taken_back old s.0 s.1 ss else stays old (not_top s.0)

-- the undo of the last group, if it is the one that is named
abbrev pub undone : Now → (named : Option ℕ) → Response
undone old named = undone_of old named old.undo

-- the document after a group stands again, which can be undone
abbrev pub made_again : Now → (group : ℕ) → Step → List (ℕ × Step) → Response
made_again old group s ss =
    next_version (record old { document = s.to; undo = push (group, stepped s) old.undo; redo = ss; cache = kept_after old s }) group

abbrev pub redone_of : Now → List (ℕ × Step) → Response
redone_of old [] = stays old nothing_to_redo
redone_of old (s ∷ ss) = made_again old s.0 s.1 ss

-- the redo of the group that was undone last
abbrev pub redone : Now → Response
redone old = redone_of old old.redo

-- an answer about a tile, where its stack and the tile are there
abbrev pub where_tile : Now → (stack : ℕ) → TileAt → Response → Response
where_tile old stack at there =
    if not (has_stack old.document stack) then stays old (no_stack stack) else
    if not (is_on_grid old.document.width old.document.height at) then stays old outside_tile else there

-- with these pictures
abbrev pub with_cache : Now → Cache → Now
with_cache old cache = record old { cache = cache }

-- the slot of a tile is clean
abbrev pub with_tile : Now → (stack : ℕ) → TileAt → Now
with_tile old stack at =
    record old { cache = change_stack stack (change_slot at (show_slot (project old.document stack at))) old.cache }

abbrev pub shown : Now → (stack : ℕ) → TileAt → Response
shown old stack at = where_tile old stack at (record { reply = tile_of old.version; now = with_tile old stack at })

-- what is kept of a tile, where that is as late as what was seen
abbrev pub peeked : Now → (stack : ℕ) → TileAt → (seen : ℕ) → Response
peeked old stack at seen = where_tile old stack at (stays old (peek_reply (kept old.cache stack at old.version) seen))

-- the group that an undo would undo
abbrev pub top_of : List (ℕ × Step) → Option ℕ
top_of [] = None
top_of (s ∷ ss) = Some s.0

-- what a call is told by a session that has seen a version, and whose filters answered these tables
abbrev pub response : Now → Call → (seen : ℕ) → (tables : List (List ℕ)) → Response
response old (machine.edit guard edits) seen tables = edited old guard edits tables
response old (machine.undo named) seen tables = undone old named
response old machine.redo seen tables = redone old
response old (machine.tile stack at) seen tables = shown old stack at
response old (machine.peek stack at) seen tables = peeked old stack at seen
response old machine.top seen tables = stays old (top_is (top_of old.undo) old.version)

-- the bytes are those of the tile that was asked for, where it is shown
abbrev pub ShowsTile : Document → (stack : ℕ) → TileAt → Reply → (bytes : List ℕ) → Type 0
ShowsTile d stack at reply bytes = IfSome (version_shown reply) (λ version. bytes ≡ project d stack at)

-- the bytes are those of the picture that is kept, where it is shown
abbrev pub ShowsKept : Option Shown → Reply → (bytes : List ℕ) → Type 0
ShowsKept kept reply bytes =
    IfSome (version_shown reply) (λ version. IsSomeAnd kept (λ k. (version ≡ k.version) × (bytes ≡ k.picture)))

abbrev pub ShowsNow : Now → Call → Reply → (bytes : List ℕ) → Type 0
ShowsNow now (machine.tile stack at) reply bytes = ShowsTile now.document stack at reply bytes
ShowsNow now (machine.peek stack at) reply bytes = ShowsKept (kept now.cache stack at now.version) reply bytes
ShowsNow now (machine.edit guard edits) reply bytes = Unit {0}
ShowsNow now (machine.undo named) reply bytes = Unit {0}
ShowsNow now machine.redo reply bytes = Unit {0}
ShowsNow now machine.top reply bytes = Unit {0}

-- a tile that is handed out leaves its bytes in the desk; after any other reply the desk is as before
abbrev pub KeepsDesk : Reply → (old new : List ℕ) → Type 0
KeepsDesk (tile_of version) old new = Unit {0}
KeepsDesk (changed version group next) old new = new ≡ old
KeepsDesk (refused index cause) old new = new ≡ old
KeepsDesk (moved now) old new = new ≡ old
KeepsDesk nothing_to_undo old new = new ≡ old
KeepsDesk nothing_to_redo old new = new ≡ old
KeepsDesk (not_top top) old new = new ≡ old
KeepsDesk (stale have seen) old new = new ≡ old
KeepsDesk (no_stack node) old new = new ≡ old
KeepsDesk outside_tile old new = new ≡ old
KeepsDesk (top_is group version) old new = new ≡ old
KeepsDesk (saved version) old new = new ≡ old
KeepsDesk (save_fault version) old new = new ≡ old
KeepsDesk (save_memory version) old new = new ≡ old
KeepsDesk history_full old new = new ≡ old

-- ---- the pictures that are kept

-- What is kept is of the document, a clean slot's picture is the document's, and no slot was marked after this version.
pub record IsKept (d : Document) (cache : Cache) (version : ℕ) : Type 0 where
  pub of : IsCacheOf d cache
  pub clean : (stack : ℕ) (at : TileAt) (slot : Slot) → slot_of cache stack at ≡ Some slot → slot.marked ≡ false
      → slot.picture ≡ Some (project d stack at)
  pub marks : (stack : ℕ) (at : TileAt) (slot : Slot) → slot_of cache stack at ≡ Some slot → slot.marked_at ≤ version

abbrev pub IsKeptNow : Now → Type 0
IsKeptNow now = IsKept now.document now.cache now.version

-- the tile is one of a stack of the document
pub record IsTileOf (d : Document) (p : Place) : Type 0 where
  pub has : has_stack d p.stack ≡ true
  pub on_grid : is_on_grid d.width d.height p.at ≡ true

-- ---- what stands in the machine

-- the damage of the group behind a version
abbrev pub damage_behind : Option Cause → List Pair
damage_behind None = []
damage_behind (Some c) = damage_along c.old c.edits c.tables

abbrev pub damage_at : State → (version : ℕ) → List Pair
damage_at s version = damage_behind (slice_get s.causes (version - 1))

-- a group with the step back over it
abbrev pub undo_of : Document → State → Done → ℕ × Step
undo_of base s d =
    let back : Step = record {
      from = document_at base s d.after;
      to = document_at base s d.before;
      damage = damage_at s d.after;
    } in
    (d.group, back)

-- and with the step forth over it
abbrev pub redo_of : Document → State → Done → ℕ × Step
redo_of base s d =
    let forth : Step = record {
      from = document_at base s d.before;
      to = document_at base s d.after;
      damage = damage_at s d.after;
    } in
    (d.group, forth)

-- what stands in a state of the machine, beside the pictures that are kept
abbrev pub now_of : Document → State → Cache → Now
now_of base s cache = record {
  document = document_at base s (latest s);
  undo = map (undo_of base s) s.undo;
  redo = map (redo_of base s) s.redo;
  next_id = s.next_id;
  next_group = s.next_group;
  version = latest s;
  cache = cache;
}

-- the entries and the pictures that are kept as a world, apart from the jobs that are out
abbrev pub world_of : Document → List Entry → Cache → World
world_of base entries cache = record { entries = entries; state = replay base entries; cache = cache; jobs = [] }

-- What stands is what the machine has come to after the entries, which are legal, and made counts each session's calls. The base is
-- within its limits, and its ids are small. The pictures that are kept are right.
pub record Stands (base : Document) (entries : List Entry) (now : Now) (made : List ℕ) : Type 0 where
  pub within : IsDocument base
  pub small : AllByRecursion (λ id. id ≤ 2 ^ 31) (ids base.nodes)
  pub legal : IsLegal base entries
  pub few : length entries + entries_owed (replay base entries).out ≤ MAX_ENTRIES
  pub is_now : now ≡ now_of base (replay base entries) now.cache
  pub groups : now.next_group ≤ length entries + 1
  pub indices : (session : ℕ) → session < 8 → slice_index made session ≡ next_index entries session
  pub pictures : IsStanding base (world_of base entries now.cache)
