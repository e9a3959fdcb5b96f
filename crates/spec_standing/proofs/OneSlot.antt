-- What a change of one tile's slot makes of a cache depends on that slot alone.
use Rattle.std.proofs.Common.{◌≡◌, ℕ, zero, suc, ◌+◌, ◌*◌, ◌/◌, ◌%◌, ◌<◌, Bool, true, false, cond, ◌==◌, List, [], ◌∷◌}
use Rattle.std.proofs.Common.{length, map, find, not, refl, sym, ◌∙◌, ap, true≢false, arith}
use Rattle.std.specs.Prelude.{Option, Some, None, option_map, option_and_then, unwrap_or, slice_get}
use Rattle.std.specs.List.{AllByRecursion}
use Rattle.std.proofs.lemmas.Bool.Decides.{nat_tests}
use Rattle.std.proofs.lemmas.Nat.{div-add-mod'}
use Rattle.spec_document.specs.declared.TileAt.{TileAt}
use Rattle.spec_document.specs.Grid.{tiles_along, is_on_grid, same_tile}
use Rattle.spec_cache.specs.Slots.{Slot, Slots, AreOfCanvas, slot_at, tile_numbered, tiled_from, change_slot, fill_slot}
use Rattle.spec_cache.specs.Cache.{Held, Cache, AreInOrder, IsCache, slots_in, slot_of, is_clean, change_held, change_stack}
use Rattle.spec_cache.proofs.Found.{canvas-found}
use Rattle.spec_world.specs.Events.{show_slot}
use Rattle.spec_world.proofs.Standing.{same-tile}
use Rattle.spec_world.proofs.Taken.{numbered-on}

-- ---- the slots of a stack

tiled_alike : (width first : ℕ) (f g : TileAt → Slot → Slot) (each : List Slot)
    → ((i : ℕ) (slot : Slot) → slice_get each i ≡ Some slot
    → f (tile_numbered width (first + i)) slot ≡ g (tile_numbered width (first + i)) slot)
    → map (λ p. f p.0 p.1) (tiled_from width first each) ≡ map (λ p. g p.0 p.1) (tiled_from width first each)
tiled_alike width first f g [] same = refl
tiled_alike width first f g (s ∷ ss) same =
    let none : first + 0 ≡ first = omega arith in
    let here : f (tile_numbered width first) s ≡ g (tile_numbered width first) s =
    ap (λ n. f (tile_numbered width n) s) (sym none) ∙ (same 0 s refl ∙ ap (λ n. g (tile_numbered width n) s) none) in
    let rest = tiled_alike width (suc first) f g ss (λ i slot found.
    let more : suc first + i ≡ first + suc i = omega arith in
    ap (λ n. f (tile_numbered width n) slot) more
    ∙ (same (suc i) slot found ∙ ap (λ n. g (tile_numbered width n) slot) (sym more))) in
    λ k. here k ∷ rest k

within-each : (each : List Slot) (i : ℕ) (slot : Slot) → slice_get each i ≡ Some slot → i < length each
within-each [] i slot found = cc
within-each (s ∷ ss) zero slot found = omega arith
within-each (s ∷ ss) (suc i) slot found = let rest = within-each ss i slot found in omega (arith, rest)

-- the slot of a tile is the one with its number
numbered-slot : (w h : ℕ) (s : Slots) (at : TileAt) (i : ℕ) (slot : Slot) → AreOfCanvas w h s → slice_get s.each i ≡ Some slot
    → tile_numbered s.width i ≡ at → slot_at s at ≡ Some slot
numbered-slot w h s at i slot of_canvas found is =
    let below = within-each s.each i slot found in
    let full : length s.each ≡ tiles_along s.width * tiles_along s.height =
    of_canvas.full ∙ (λ k. tiles_along (sym of_canvas.width_is k) * tiles_along (sym of_canvas.height_is k)) in
    let on : is_on_grid s.width s.height (tile_numbered s.width i) ≡ true =
    numbered-on s.width s.height i (omega (arith, below, full)) in
    let number : i / tiles_along s.width * tiles_along s.width + i % tiles_along s.width ≡ i =
    div-add-mod' i (tiles_along s.width) in
    ap (slot_at s) (sym is)
    ∙ (ap (λ b. cond b (slice_get s.each (i / tiles_along s.width * tiles_along s.width + i % tiles_along s.width)) None) on
    ∙ (ap (slice_get s.each) number ∙ found))

-- two changes of a tile's slot that make the same of it
slots_alike : (w h : ℕ) (s : Slots) (at : TileAt) (f g : Slot → Slot) → AreOfCanvas w h s
    → ((slot : Slot) → slot_at s at ≡ Some slot → f slot ≡ g slot)
    → change_slot at f s ≡ change_slot at g s
slots_alike w h s at f g of_canvas same =
    let F : TileAt → Slot → Slot = λ tile slot. cond (same_tile tile at) (f slot) slot in
    let G : TileAt → Slot → Slot = λ tile slot. cond (same_tile tile at) (g slot) slot in
    let each = tiled_alike s.width 0 F G s.each
    (λ i slot found. one (0 + i) slot (let same : 0 + i ≡ i = omega arith in
    ap (slice_get s.each) same ∙ found) (same_tile (tile_numbered s.width (0 + i)) at) refl) in
    λ k. record { width = s.width; height = s.height; each = each k }
  where
    one : (i : ℕ) (slot : Slot) → slice_get s.each i ≡ Some slot → (b : Bool) → same_tile (tile_numbered s.width i) at ≡ b
        → cond b (f slot) slot ≡ cond b (g slot) slot
    one i slot found true e = same slot (numbered-slot w h s at i slot of_canvas found (same-tile (tile_numbered s.width i) at e))
    one i slot found false e = refl

-- ---- the stacks

others-stay : (stack : ℕ) (f : Slots → Slots) (h : Held) (hs : List Held) → (h.stack == stack) ≡ true
    → AllByRecursion (λ k. h.stack < k.stack) hs → map (change_held stack f) hs ≡ hs
others-stay stack f h [] is above = refl
others-stay stack f h (k ∷ ks) is above =
    let rest = others-stay stack f h ks is above.1 in
    let less = above.0 in
    let other : (k.stack == stack) ≡ false = grind (arith, nat_tests, less, is) in
    let here : change_held stack f k ≡ k = ap (λ b. cond b (record k { slots = f k.slots }) k) other in
    λ i. here i ∷ rest i

held_alike : (stack : ℕ) (f g : Slots → Slots) (held : List Held) → AreInOrder held
    → ((slots : Slots) → slots_in held stack ≡ Some slots → f slots ≡ g slots)
    → map (change_held stack f) held ≡ map (change_held stack g) held
held_alike stack f g [] in_order same = refl
held_alike stack f g (h ∷ hs) in_order same = go (h.stack == stack) refl (held_alike stack f g hs in_order.1)
  where
    found : (b : Bool) → Option Slots
    found b = option_map (λ k. k.slots) (cond b (Some h) (find (λ k. k.stack == stack) hs))

    go : (b : Bool) → (h.stack == stack) ≡ b
        → (((slots : Slots) → slots_in hs stack ≡ Some slots → f slots ≡ g slots)
        → map (change_held stack f) hs ≡ map (change_held stack g) hs)
        → map (change_held stack f) (h ∷ hs) ≡ map (change_held stack g) (h ∷ hs)
    go true e more =
        let slots : f h.slots ≡ g h.slots = same h.slots (ap found e) in
        let here : change_held stack f h ≡ change_held stack g h =
        ap (λ b. cond b (record h { slots = f h.slots }) h) e
        ∙ (ap (λ s. record h { slots = s }) slots ∙ sym (ap (λ b. cond b (record h { slots = g h.slots }) h) e)) in
        let rest = others-stay stack f h hs e in_order.0 ∙ sym (others-stay stack g h hs e in_order.0) in
        λ i. here i ∷ rest i
    go false e more =
        let here : change_held stack f h ≡ change_held stack g h =
        ap (λ b. cond b (record h { slots = f h.slots }) h) e ∙ sym (ap (λ b. cond b (record h { slots = g h.slots }) h) e) in
        let rest = more (λ slots there. same slots (ap found e ∙ there)) in
        λ i. here i ∷ rest i

-- two changes of a tile's slot that make the same of it make the same of the cache
pub cache_alike : (w h : ℕ) (cache : Cache) (stack : ℕ) (at : TileAt) (f g : Slot → Slot) → IsCache w h cache
    → ((slot : Slot) → slot_of cache stack at ≡ Some slot → f slot ≡ g slot)
    → change_stack stack (change_slot at f) cache ≡ change_stack stack (change_slot at g) cache
cache_alike w h cache stack at f g is same =
    let held = held_alike stack (change_slot at f) (change_slot at g) cache.held is.in_order
    (λ slots found. slots_alike w h slots at f g (canvas-found w h cache.held stack slots is.of_canvas found)
    (λ slot there. same slot (ap (option_and_then (λ k. slot_at k at)) found ∙ there))) in
    λ i. record { held = held i; last = cache.last }

-- ---- a change that changes nothing

tiled-same : (width first : ℕ) (at : TileAt) (each : List Slot)
    → map (λ p. cond (same_tile p.0 at) p.1 p.1) (tiled_from width first each) ≡ each
tiled-same width first at [] = refl
tiled-same width first at (s ∷ ss) =
    λ i. cond-same (same_tile (tile_numbered width first) at) s i ∷ tiled-same width (suc first) at ss i
  where
    cond-same : (b : Bool) (s : Slot) → cond b s s ≡ s
    cond-same true s = refl
    cond-same false s = refl

held-same : (stack : ℕ) (at : TileAt) (held : List Held) → map (change_held stack (change_slot at (λ s. s))) held ≡ held
held-same stack at [] = refl
held-same stack at (h ∷ hs) = λ i. either (h.stack == stack) i ∷ held-same stack at hs i
  where
    either : (b : Bool) → cond b (record h { slots = change_slot at (λ s. s) h.slots }) h ≡ h
    either true = λ i. record {
      stack = h.stack;
      slots =
          record { width = h.slots.width; height = h.slots.height; each = tiled-same h.slots.width 0 at h.slots.each i };
    }
    either false = refl

pub cache-same : (stack : ℕ) (at : TileAt) (cache : Cache) → change_stack stack (change_slot at (λ s. s)) cache ≡ cache
cache-same stack at cache = λ i. record { held = held-same stack at cache.held i; last = cache.last }

-- ---- a tile that is shown

-- a slot that is clean stays
pub shown-clean : (w h : ℕ) (cache : Cache) (stack : ℕ) (at : TileAt) (picture : List ℕ) → IsCache w h cache
    → is_clean cache stack at ≡ true
    → change_stack stack (change_slot at (show_slot picture)) cache ≡ cache
shown-clean w h cache stack at picture is clean =
    cache_alike w h cache stack at (show_slot picture) (λ s. s) is (λ slot found. stays slot (sym (ap of found) ∙ clean))
    ∙ cache-same stack at cache
  where
    of : Option Slot → Bool
    of o = unwrap_or (option_map (λ s. not s.marked) o) false

    stays : (slot : Slot) → not slot.marked ≡ true → show_slot picture slot ≡ slot
    stays slot e = go slot.marked e
      where
        go : (b : Bool) → not b ≡ true → cond b (fill_slot picture slot) slot ≡ slot
        go true e = absurd (true≢false (sym e))
        go false e = refl

-- a slot that is marked is filled
pub shown-marked : (w h : ℕ) (cache : Cache) (stack : ℕ) (at : TileAt) (picture : List ℕ) → IsCache w h cache
    → is_clean cache stack at ≡ false
    → change_stack stack (change_slot at (show_slot picture)) cache ≡ change_stack stack (change_slot at (fill_slot picture)) cache
shown-marked w h cache stack at picture is marked =
    cache_alike w h cache stack at (show_slot picture) (fill_slot picture) is
    (λ slot found. fills slot (sym (ap of found) ∙ marked))
  where
    of : Option Slot → Bool
    of o = unwrap_or (option_map (λ s. not s.marked) o) false

    fills : (slot : Slot) → not slot.marked ≡ false → show_slot picture slot ≡ fill_slot picture slot
    fills slot e = go slot.marked e
      where
        go : (b : Bool) → not b ≡ false → cond b (fill_slot picture slot) slot ≡ fill_slot picture slot
        go true e = refl
        go false e = absurd (true≢false e)
