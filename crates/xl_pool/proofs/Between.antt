-- To go along a change leaves the cache as a version between its documents does.
use Rattle.std.proofs.Common.{◌≡◌, ℕ, suc, Bool, true, false, cond, not, ◌&&◌, ◌||◌, ◌==◌, List, [], ◌∷◌, map, filter}
use Rattle.std.proofs.Common.{refl, sym, ◌∙◌, ap, eq-eqb}
use Rattle.std.specs.Prelude.{Option, Some, is_some, option_map, find}
use Rattle.std.specs.List.{AllByRecursion}
use Rattle.spec_document.specs.Document.{Document}
use Rattle.spec_damage.specs.Damage.{Pair}
use Rattle.spec_cache.specs.Slots.{Slot, Slots, tiled_from, mark_slots}
use Rattle.spec_cache.specs.Cache.{Held, Cache, slots_in, has_slots, drop_stack, mark, change_held}
use Rattle.spec_cache.proofs.Marks.{mark_slots-cons}
use Rattle.spec_history.specs.Machine.{has_stack}
use Rattle.spec_world.specs.World.{mark_held}
use Rattle.spec_world.proofs.Filled.{eq-swap}
use Rattle.spec_world.proofs.Stacks.{has_id, came-listed}
use Rattle.spec_standing.specs.Change.{came_to, without_stacks, marked_by, with_stacks, rects_in, LeavesCacheBetween}

-- ---- stacks that go

filter-twice : (s : ℕ) (ss : List ℕ) (held : List Held)
    → filter (λ h. not (has_id h.stack ss)) (filter (λ h. not (h.stack == s)) held)
    ≡ filter (λ h. not (has_id h.stack (s ∷ ss))) held
filter-twice s ss [] = refl
filter-twice s ss (h ∷ hs) =
    go (h.stack == s) (filter-twice s ss hs)
    ∙ ap (λ b. cond (not (b || has_id h.stack ss)) (h ∷ filter (λ k. not (has_id k.stack (s ∷ ss))) hs)
    (filter (λ k. not (has_id k.stack (s ∷ ss))) hs)) (eq-swap h.stack s)
  where
    go : (b : Bool) → filter (λ k. not (has_id k.stack ss)) (filter (λ k. not (k.stack == s)) hs)
        ≡ filter (λ k. not (has_id k.stack (s ∷ ss))) hs
        → filter (λ k. not (has_id k.stack ss))
        (cond (not b) (h ∷ filter (λ k. not (k.stack == s)) hs) (filter (λ k. not (k.stack == s)) hs))
        ≡ cond (not (b || has_id h.stack ss)) (h ∷ filter (λ k. not (has_id k.stack (s ∷ ss))) hs)
        (filter (λ k. not (has_id k.stack (s ∷ ss))) hs)
    go true more = more
    go false more = ap (λ rest. cond (not (has_id h.stack ss)) (h ∷ rest) rest) more

all-kept : (held : List Held) → held ≡ filter (λ h. not (has_id h.stack [])) held
all-kept [] = refl
all-kept (h ∷ hs) = ap (λ rest. h ∷ rest) (all-kept hs)

pub without-filtered : (went : List ℕ) (cache : Cache)
    → without_stacks went cache ≡ record cache { held = filter (λ h. not (has_id h.stack went)) cache.held }
without-filtered [] cache = ap (λ held. record cache { held = held }) (all-kept cache.held)
without-filtered (s ∷ ss) cache =
    without-filtered ss (drop_stack s cache) ∙ ap (λ held. record cache { held = held }) (filter-twice s ss cache.held)

filter-same : (p q : ℕ → Bool) (held : List Held) → AllByRecursion (λ h. p h.stack ≡ q h.stack) held
    → filter (λ h. p h.stack) held ≡ filter (λ h. q h.stack) held
filter-same p q [] all = refl
filter-same p q (h ∷ hs) all = λ i. cond (all.0 i) (h ∷ filter-same p q hs all.1 i) (filter-same p q hs all.1 i)

-- ---- what holds of each stack that has slots

some-first : (h : Held) (b : Bool) (rest : Option Held) → b ≡ true
    → is_some (option_map (λ x. x.slots) (cond b (Some h) rest)) ≡ true
some-first h b rest e = ap (λ c. is_some (option_map (λ x. x.slots) (cond c (Some h) rest))) e

some-behind : (h : Held) (b : Bool) (rest : Option Held) → is_some (option_map (λ x. x.slots) rest) ≡ true
    → is_some (option_map (λ x. x.slots) (cond b (Some h) rest)) ≡ true
some-behind h true rest e = refl
some-behind h false rest e = e

pub each-held : (P : ℕ → Type 0) (held : List Held) → ((stack : ℕ) → is_some (slots_in held stack) ≡ true → P stack)
    → AllByRecursion (λ h. P h.stack) held
each-held P [] has = tt
each-held P (h ∷ hs) has = (
  has h.stack (some-first h (h.stack == h.stack) (find (λ x. x.stack == h.stack) hs) (eq-eqb h.stack h.stack refl)),
  each-held P hs (λ stack e. has stack (some-behind h (h.stack == stack) (find (λ x. x.stack == stack) hs) e)),
)

and-here : (a b : Bool) → b ≡ true → not (not a && b) ≡ a
and-here true b e = refl
and-here false b e = ap not e

-- those that stay are the stacks of the new document
pub without-stays : (old new : Document) (cache : Cache) → ((stack : ℕ) → has_slots cache stack ≡ has_stack old stack)
    → without_stacks (came_to new old) cache ≡ record cache { held = filter (λ h. has_stack new h.stack) cache.held }
without-stays old new cache same =
    without-filtered (came_to new old) cache
    ∙ ap (λ held. record cache { held = held }) (filter-same (λ k. not (has_id k (came_to new old))) (has_stack new) cache.held
    (each-held (λ k. not (has_id k (came_to new old)) ≡ has_stack new k) cache.held
    (λ k e. ap not (came-listed new old k) ∙ and-here (has_stack new k) (has_stack old k) (sym (same k) ∙ e))))

-- ---- marks

none-from : (width first : ℕ) (each : List Slot) → map (λ p. p.1) (tiled_from width first each) ≡ each
none-from width first [] = refl
none-from width first (x ∷ xs) = ap (λ rest. x ∷ rest) (none-from width (suc first) xs)

mark-none : (version : ℕ) (s : Slots) → mark_slots [] version s ≡ s
mark-none version s = ap (λ each. record s { each = each }) (none-from s.width 0 s.each)

-- the slots of a stack, marked by its rectangles
abbrev pub mark_by : List Pair → (version : ℕ) → Held → Held
mark_by damage version h = record h { slots = mark_slots (rects_in damage h.stack) version h.slots }

mark-one : (p : Pair) (ps : List Pair) (version : ℕ) (h : Held)
    → mark_by ps version (change_held p.stack (mark_slots (p.rect ∷ []) version) h) ≡ mark_by (p ∷ ps) version h
mark-one p ps version h =
    go (h.stack == p.stack)
    ∙ ap (λ b. record h {
      slots = mark_slots
          (map (λ q. q.rect) (cond b (p ∷ filter (λ q. q.stack == h.stack) ps) (filter (λ q. q.stack == h.stack) ps))) version
          h.slots;
    }) (eq-swap h.stack p.stack)
  where
    go : (b : Bool) → mark_by ps version (cond b (record h { slots = mark_slots (p.rect ∷ []) version h.slots }) h)
        ≡ record h {
          slots = mark_slots
              (map (λ q. q.rect) (cond b (p ∷ filter (λ q. q.stack == h.stack) ps) (filter (λ q. q.stack == h.stack) ps))) version
              h.slots;
        }
    go true = ap (λ s. record h { slots = s }) (mark_slots-cons p.rect (rects_in ps h.stack) version h.slots)
    go false = refl

map-twice : (f g k : Held → Held) → ((h : Held) → f (g h) ≡ k h) → (held : List Held) → map f (map g held) ≡ map k held
map-twice f g k same [] = refl
map-twice f g k same (h ∷ hs) = λ i. same h i ∷ map-twice f g k same hs i

map-none : (version : ℕ) (held : List Held) → held ≡ map (mark_by [] version) held
map-none version [] = refl
map-none version (h ∷ hs) = λ i. record h { slots = sym (mark-none version h.slots) i } ∷ map-none version hs i

pub marked-mapped : (damage : List Pair) (version : ℕ) (cache : Cache)
    → marked_by damage version cache ≡ record cache { held = map (mark_by damage version) cache.held }
marked-mapped [] version cache = ap (λ held. record cache { held = held }) (map-none version cache.held)
marked-mapped (p ∷ ps) version cache =
    marked-mapped ps version (mark p.stack p.rect version cache)
    ∙ ap (λ held. record cache { held = held })
    (map-twice (mark_by ps version) (change_held p.stack (mark_slots (p.rect ∷ []) version)) (mark_by (p ∷ ps) version)
    (mark-one p ps version) cache.held)

map-same : (f g : Held → Held) → ((h : Held) → f h ≡ g h) → (held : List Held) → map f held ≡ map g held
map-same f g same [] = refl
map-same f g same (h ∷ hs) = λ i. same h i ∷ map-same f g same hs i

-- ---- all of it

pub leaves-between : (base old new : Document) → LeavesCacheBetween base old new
leaves-between base old new cause damage version cache canvas is rects =
    ap (λ c. with_stacks (came_to old new) old.width old.height version (marked_by damage version c))
    (without-stays old new cache is.stacks)
    ∙ (ap (with_stacks (came_to old new) old.width old.height version) (marked-mapped damage version stay)
    ∙ (ap (λ held. with_stacks (came_to old new) old.width old.height version (record cache { held = held }))
    (map-same (mark_by damage version) (mark_held cause version)
    (λ h. ap (λ rs. record h { slots = mark_slots rs version h.slots }) (rects h.stack)) stay.held)
    ∙ (λ i. with_stacks (came_to old new) (canvas.width i) (canvas.height i) version
    (record cache { held = map (mark_held cause version) stay.held }))))
  where
    stay : Cache
    stay = record cache { held = filter (λ h. has_stack new h.stack) cache.held }
