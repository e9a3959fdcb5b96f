-- The slots of all stacks, and which slot was taken last.
use Rattle.std.specs.Prelude.{ℕ, ◌<◌, Bool, false, not, ◌&&◌, ◌||◌, ◌==◌, nat_lt, if◌then◌else◌, List, [], ◌∷◌, map}
use Rattle.std.specs.Prelude.{filter, find, flat_map, slice_get, is_some, Option, Some, None, option_map}
use Rattle.std.specs.Prelude.{option_and_then, unwrap_or}
use Rattle.std.specs.List.{AllByRecursion}
use Rattle.spec_document.specs.declared.Rect.{Rect}
use Rattle.spec_document.specs.declared.TileAt.{TileAt}
use Rattle.spec_cache.specs.declared.Finished.{Finished}
use Rattle.spec_cache.specs.declared.Finished.TheVariants.{Installed, Late, Gone}
use Rattle.spec_cache.specs.Slots.{Slot, Slots, AreOfCanvas, Shown, blank_slots, slot_at, change_slot, mark_slots}
use Rattle.spec_cache.specs.Slots.{marked_tiles, fill_slot, shown_by}

-- the slots of a stack; 0 is the image
pub record Held : Type 0 where
  pub stack : ℕ
  pub slots : Slots

-- a tile of a stack
pub record Place : Type 0 where
  pub stack : ℕ
  pub at : TileAt

-- the stacks in the order of their ids
pub record Cache : Type 0 where
  pub held : List Held
  pub last : Option Place

-- the stacks stand in the order of their ids
abbrev pub AreInOrder : List Held → Type 0
AreInOrder [] = Unit {0}
AreInOrder (h ∷ hs) = AllByRecursion (λ k. h.stack < k.stack) hs × AreInOrder hs

-- the cache is for a canvas of these sides
pub record IsCache (w h : ℕ) (cache : Cache) : Type 0 where
  pub in_order : AreInOrder cache.held
  pub of_canvas : AllByRecursion (λ k. AreOfCanvas w h k.slots) cache.held

abbrev pub no_slots : Cache
no_slots = record { held = []; last = None }

-- ---- the stacks

abbrev pub slots_in : List Held → (stack : ℕ) → Option Slots
slots_in held stack = option_map (λ h. h.slots) (find (λ h. h.stack == stack) held)

abbrev pub slots_of : Cache → (stack : ℕ) → Option Slots
slots_of cache stack = slots_in cache.held stack

abbrev pub has_slots : Cache → (stack : ℕ) → Bool
has_slots cache stack = is_some (slots_of cache stack)

-- put in by its id
abbrev pub put_in : Held → List Held → List Held
put_in h [] = h ∷ []
put_in h (k ∷ ks) =
    let rest = k ∷ put_in h ks in
    if nat_lt h.stack k.stack then h ∷ k ∷ ks else
    if h.stack == k.stack then h ∷ ks else rest

-- the stack comes with slots that are all marked and have no picture
abbrev pub add_stack : (stack : ℕ) → (width height version : ℕ) → Cache → Cache
add_stack stack width height version cache =
    record cache { held = put_in (record { stack = stack; slots = blank_slots width height version }) cache.held }

abbrev pub drop_stack : (stack : ℕ) → Cache → Cache
drop_stack stack cache = record cache { held = filter (λ h. not (h.stack == stack)) cache.held }

abbrev pub change_held : (stack : ℕ) → (Slots → Slots) → Held → Held
change_held stack change h = if h.stack == stack then record h { slots = change h.slots } else h

abbrev pub change_stack : (stack : ℕ) → (Slots → Slots) → Cache → Cache
change_stack stack change cache = record cache { held = map (change_held stack change) cache.held }

-- ---- its slots

abbrev pub slot_of : Cache → (stack : ℕ) → TileAt → Option Slot
slot_of cache stack at = option_and_then (λ slots. slot_at slots at) (slots_of cache stack)

abbrev pub mark : (stack : ℕ) → Rect → (version : ℕ) → Cache → Cache
mark stack rect version cache = change_stack stack (mark_slots (rect ∷ []) version) cache

abbrev pub is_clean : Cache → (stack : ℕ) → TileAt → Bool
is_clean cache stack at = unwrap_or (option_map (λ s. not s.marked) (slot_of cache stack at)) false

-- the picture of a clean slot
abbrev pub clean_tile : Cache → (stack : ℕ) → TileAt → Option (List ℕ)
clean_tile cache stack at = option_and_then (λ s. if s.marked then None else s.picture) (slot_of cache stack at)

-- what is kept of a tile
abbrev pub kept : Cache → (stack : ℕ) → TileAt → (latest : ℕ) → Option Shown
kept cache stack at latest = option_and_then (shown_by latest) (slot_of cache stack at)

-- ---- taking, and handing in

abbrev pub comes_after : Place → Place → Bool
comes_after a b =
    nat_lt b.stack a.stack || (a.stack == b.stack
    && (nat_lt b.at.row a.at.row || (a.at.row == b.at.row && nat_lt b.at.col a.at.col)))

-- all marked slots, by the ids of their stacks, and then row by row
abbrev pub marked_places : List Held → List Place
marked_places held = flat_map (λ h. map (λ at. record { stack = h.stack; at = at }) (marked_tiles h.slots)) held

abbrev pub or_first : Option Place → List Place → Option Place
or_first None places = slice_get places 0
or_first (Some place) places = Some place

abbrev pub next_after : Option Place → List Place → Option Place
next_after None places = slice_get places 0
next_after (Some last) places = or_first (find (λ p. comes_after p last) places) places

-- the next marked slot after the one that was taken last, and round to the first
abbrev pub next_place : Cache → Option Place
next_place cache = next_after cache.last (marked_places cache.held)

abbrev pub with_last : Option Place → Cache → Cache
with_last None cache = cache
with_last (Some place) cache = record cache { last = Some place }

-- a place is taken, where one is marked
abbrev pub after_take : Cache → Cache
after_take cache = with_last (next_place cache) cache

-- what becomes of the picture of a version at a slot: gone where there is no slot, late where it was marked after the version
abbrev pub finish_at : (version : ℕ) → Option Slot → Finished
finish_at version None = Gone
finish_at version (Some s) = if nat_lt version s.marked_at then Late s.marked_at else Installed

-- what becomes of the picture of a version, on the grid
abbrev pub finish : Cache → Place → (version : ℕ) → Finished
finish cache place version = finish_at version (slot_of cache place.stack place.at)

abbrev pub put_where : Finished → Place → (picture : List ℕ) → Cache → Cache
put_where Installed place picture cache = change_stack place.stack (change_slot place.at (fill_slot picture)) cache
put_where (Late marked_at) place picture cache = cache
put_where Gone place picture cache = cache

-- a picture is handed in
abbrev pub install : Place → (version : ℕ) → (picture : List ℕ) → Cache → Cache
install place version picture cache = put_where (finish cache place version) place picture cache
