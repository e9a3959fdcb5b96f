-- Worlds in short, for worked rows.
use Rattle.std.specs.Prelude.{ℕ, ◌+◌, ◌*◌, ◌%◌, Bool, true, false, ◌&&◌, ◌==◌, nat_le, if◌then◌else◌, List, [], ◌∷◌}
use Rattle.std.specs.Prelude.{length, map, fold, Option, Some, None, option_map, is_some, unwrap_or}
use Rattle.std.specs.List.{list_all}
use Rattle.std.specs.Str.{bytes_eq}
use Rattle.spec_document.specs.declared.TileAt.{TileAt}
use Rattle.spec_document.specs.Grid.{all_tiles}
use Rattle.spec_document.specs.Document.{Document}
use Rattle.spec_cache.specs.declared.Finished.{Finished}
use Rattle.spec_cache.specs.Slots.{Slot, fill_slot, change_slots, with_tiles, shown_by}
use Rattle.spec_cache.specs.Cache.{Held, Place, slots_of, next_place}
use Rattle.spec_history.specs.Machine.{Reply, latest, document_at, has_stack}
use Rattle.spec_history.specs.Kept as history
use Rattle.spec_document.specs.Picture.{project}
use Rattle.spec_world.specs.World.{World, document_now, stack_ids}
use Rattle.spec_history.specs.Marks.{marked_at}
use Rattle.spec_world.specs.Events.{Event, submits, takes, finishes, begins_save, ends_save, submit, finish_answer, after}

-- what an event answers
pub data Said : Type 0 where
  replied : Reply → Said
  took : Option Place → Said
  came : Finished → Said
  silent : Said

abbrev pub said : Document → World → Event → Said
said base w (submits session call seen tables) = replied (submit base w session call seen tables).reply
said base w takes = took (next_place w.cache)
said base w (finishes number) = came (finish_answer w number)
said base w (begins_save session) = silent
said base w (ends_save session how) = silent

-- what a list of events answers
abbrev pub all_said : Document → World → List Event → List Said
all_said base w [] = []
all_said base w (e ∷ es) = let rest = all_said base (after base w e) es in said base w e ∷ rest

abbrev pub all_after : Document → World → List Event → World
all_after base w events = fold (λ w e. after base w e) w events

-- a slot without the bytes of its picture
pub record Short : Type 0 where
  pub has : Bool
  pub marked : Bool
  pub good_to : ℕ
  pub marked_at : ℕ

abbrev pub short : Slot → Short
short s = record { has = is_some s.picture; marked = s.marked; good_to = s.good_to; marked_at = s.marked_at }

-- the slots of a stack, row by row, and none where it has no slots
abbrev pub shorts : World → (stack : ℕ) → List Short
shorts w stack = unwrap_or (option_map (λ slots. map short slots.each) (slots_of w.cache stack)) []

-- the stacks that have slots
abbrev pub stacks : World → List ℕ
stacks w = map (λ h. h.stack) w.cache.held

-- the world where every slot is clean, with pictures of no bytes
abbrev pub cleaned : Held → Held
cleaned h = record h { slots = change_slots (λ tile slot. fill_slot [] slot) h.slots }

abbrev pub all_clean : World → World
all_clean w = record w { cache = record w.cache { held = map cleaned w.cache.held } }

-- every stack with its slots in short
abbrev pub in_short : World → List (ℕ × List Short)
in_short w = map (λ h. (h.stack, map short h.slots.each)) w.cache.held

-- a number for the bytes of a picture, to which each byte and its place counts
abbrev pub sum_of : Option (List ℕ) → ℕ
sum_of None = 0
sum_of (Some bytes) = fold (λ sum n. (31 * sum + n) % 1000003) 0 bytes

abbrev pub picture_sums : World → List (List ℕ)
picture_sums w = map (λ h. map (λ s. sum_of s.picture) h.slots.each) w.cache.held

-- what the history keeps of each tile of each stack
abbrev pub all_kept : Document → World → List (List (Option ℕ))
all_kept base w = map (λ h. map (history.kept base w.entries h.stack) (all_tiles base.width base.height)) w.cache.held

-- ---- the facts of a right world, tried on each slot

abbrev pub is_picture : Option (List ℕ) → (bytes : List ℕ) → Bool
is_picture None bytes = false
is_picture (Some picture) bytes = bytes_eq picture bytes

abbrev pub is_picture_if_any : Option (List ℕ) → (bytes : List ℕ) → Bool
is_picture_if_any None bytes = true
is_picture_if_any (Some picture) bytes = bytes_eq picture bytes

abbrev pub is_at_least : Option ℕ → Option ℕ → Bool
is_at_least shown None = true
is_at_least None (Some least) = false
is_at_least (Some version) (Some least) = nat_le least version

abbrev pub is_right_slot : Document → World → (stack : ℕ) → TileAt → Slot → Bool
is_right_slot base w stack at s =
    let now = project (document_now base w.state) stack at in
    let then_ = project (document_at base w.state s.good_to) stack at in
    let shown = option_map (λ k. k.version) (shown_by (latest w.state) s) in
    (s.marked_at == marked_at base w.state stack at)
    && ((if s.marked then is_picture_if_any s.picture then_ else is_picture s.picture now)
    && is_at_least shown (history.kept base w.entries stack at))

abbrev pub has_right_slots : Document → World → Held → Bool
has_right_slots base w h =
    has_stack (document_now base w.state) h.stack && list_all (λ p. is_right_slot base w h.stack p.0 p.1) (with_tiles h.slots)

abbrev pub all_right : Document → World → Bool
all_right base w =
    length w.cache.held == length (stack_ids (document_now base w.state)) && list_all (has_right_slots base w) w.cache.held
