-- What a group of edits does to the pictures that are kept, there and back.
use Rattle.std.specs.Prelude.{◌≡◌, ℕ, ◌==◌, not, List, map, filter, fold, Option}
use Rattle.spec_document.specs.declared.Rect.{Rect}
use Rattle.spec_document.specs.Document.{Document}
use Rattle.spec_document.specs.Limits.{IsDocument}
use Rattle.spec_damage.specs.Damage.{Pair}
use Rattle.spec_cache.specs.Cache.{Cache, IsCache, no_slots, has_slots, add_stack, drop_stack, mark}
use Rattle.spec_history.specs.Machine.{Cause, has_stack}
use Rattle.spec_world.specs.World.{stack_ids, add_stacks, rects_of, cache_between}

-- the sides of the canvas, the rectangles in which pictures change, and the stacks that come and those that go
pub record Change : Type 0 where
  pub width : ℕ
  pub height : ℕ
  pub damage : List Pair
  pub came : List ℕ
  pub went : List ℕ

-- the stacks of the new document that the old one has not
abbrev pub came_to : (old new : Document) → List ℕ
came_to old new = filter (λ stack. not (has_stack old stack)) (stack_ids new)

abbrev pub change_between : (old new : Document) → (damage : List Pair) → Change
change_between old new damage =
    record { width = old.width; height = old.height; damage = damage; came = came_to old new; went = came_to new old }

-- the way back
abbrev pub turned : Change → Change
turned c = record c { came = c.went; went = c.came }

-- ---- what it makes of a cache

abbrev pub without_stacks : (stacks : List ℕ) → Cache → Cache
without_stacks stacks cache = fold (λ c stack. drop_stack stack c) cache stacks

abbrev pub marked_by : (damage : List Pair) → (version : ℕ) → Cache → Cache
marked_by damage version cache = fold (λ c p. mark p.stack p.rect version c) cache damage

abbrev pub with_stacks : (stacks : List ℕ) → (width height version : ℕ) → Cache → Cache
with_stacks stacks width height version cache = fold (λ c stack. add_stack stack width height version c) cache stacks

-- those that go are dropped, the damage is marked, and those that come have blank slots
abbrev pub gone_along : Change → (version : ℕ) → Cache → Cache
gone_along c version cache = with_stacks c.came c.width c.height version (marked_by c.damage version (without_stacks c.went cache))

-- ---- from where it leads

-- the cache is for the document's canvas, and has slots for just its stacks
pub record IsCacheOf (d : Document) (cache : Cache) : Type 0 where
  pub slots : IsCache d.width d.height cache
  pub stacks : (stack : ℕ) → has_slots cache stack ≡ has_stack d stack

-- the change leads from one document to another, and the cache is that of the first
pub record IsPath (old new : Document) (c : Change) (cache : Cache) : Type 0 where
  pub from : IsDocument old
  pub to : IsDocument new
  pub leads : c ≡ change_between old new c.damage
  pub here : IsCacheOf old cache

-- the change leads from some document, whose cache this is
abbrev pub Leads : Change → Cache → Type 0
Leads c cache = (old : Document) × (new : Document) × IsPath old new c cache

-- ---- what it comes to

-- the rectangles of a stack
abbrev pub rects_in : (damage : List Pair) → (stack : ℕ) → List Rect
rects_in damage stack = map (λ p. p.rect) (filter (λ p. p.stack == stack) damage)

-- documents of one canvas
pub record AreOfCanvas (base d : Document) : Type 0 where
  pub width : d.width ≡ base.width
  pub height : d.height ≡ base.height

-- To go along leaves the cache as a version between these documents does, where the damage has the cause's rectangles.
abbrev pub LeavesCacheBetween : (base old new : Document) → Type 0
LeavesCacheBetween base old new =
    (cause : Option Cause) (damage : List Pair) (version : ℕ) (cache : Cache) → AreOfCanvas base old → IsCacheOf old cache
    → ((stack : ℕ) → rects_in damage stack ≡ rects_of cause stack)
    → gone_along (change_between old new damage) version cache ≡ cache_between base old new cause version cache

-- Where a change leads from one document to another, it leads to the other one's cache, and back from there.
abbrev pub LeadsBack : (old new : Document) → Type 0
LeadsBack old new =
    (c : Change) (version : ℕ) (cache : Cache) → AreOfCanvas old new → IsPath old new c cache
    → IsPath new old (turned c) (gone_along c version cache)

-- the cache that a document begins with is its own
abbrev pub BeginsWithItsCache : Document → Type 0
BeginsWithItsCache d = IsDocument d → IsCacheOf d (add_stacks (stack_ids d) d 0 no_slots)
