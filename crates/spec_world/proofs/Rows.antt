-- Worked worlds.
use Rattle.std.specs.Prelude.{◌≡◌, ℕ, true, false, pos, negsuc, List, [], ◌∷◌, map, replicate, Some, None, refl}
use Rattle.spec_document.specs.declared.TileAt.{TileAt}
use Rattle.spec_document.specs.Forest.{none, leaf, group}
use Rattle.spec_document.specs.Document.{Document}
use Rattle.spec_document.proofs.Samples.{pixel, layer_of, plain_group, canvas, one, two}
use Rattle.spec_edit.specs.Edit as edits
use Rattle.spec_edit.specs.Edit.{Edit}
use Rattle.spec_cache.specs.declared.Finished.TheVariants.{Late, Gone}
use Rattle.spec_history.specs.Machine.{Call, edit, undo, tile, peek, changed, tile_of, stale, no_stack, outside_tile}
use Rattle.spec_world.specs.World.{first_world}
use Rattle.spec_world.specs.Events.{Event, submits, takes, finishes}
use Rattle.spec_world.proofs.Shown.{Said, replied, took, came, all_said, all_after, Short, shorts, stacks, all_clean}

abbrev pub call : Call → Event
call c = submits 0 c 0 []

abbrev pub edits_one : Edit → Event
edits_one e = call (edit None (e ∷ []))

abbrev pub first : TileAt
first = record { col = 0; row = 0 }

abbrev pub place : (stack : ℕ) → Said
place stack = took (Some (record { stack = stack; at = first }))

-- ---- a peek shows what is kept, and no older job comes onto a newer mark

abbrev late_run : List Event
late_run =
    edits_one (edits.set_opacity 1 1) ∷ edits_one (edits.set_opacity 1 2) ∷ edits_one (edits.set_opacity 1 3) ∷ call (tile 0 first)
    ∷ edits_one (edits.set_opacity 1 4) ∷ takes ∷ edits_one (edits.set_opacity 1 5) ∷ finishes 0
    ∷ submits 0 (peek 0 first) 5 [] ∷ call (tile 0 first) ∷ submits 0 (peek 0 first) 5 [] ∷ []

late : all_said one (first_world one) late_run ≡
    replied (changed 1 1 2) ∷ replied (changed 2 2 2) ∷ replied (changed 3 3 2) ∷ replied (tile_of 3)
    ∷ replied (changed 4 4 2) ∷ place 0 ∷ replied (changed 5 5 2) ∷ came (Late 5)
    ∷ replied (stale (Some 3) 5) ∷ replied (tile_of 5) ∷ replied (tile_of 5) ∷ []
late = refl

late_slots : shorts (all_after one (first_world one) late_run) 0 ≡ record { has = true; marked = false; good_to = 3; marked_at = 5 }
    ∷ []
late_slots = refl

-- a job of an older version does not come onto a slot that was cleaned since its mark
late_on_clean : all_said one (first_world one) (takes ∷ edits_one (edits.set_opacity 1 1) ∷ call (tile 0 first) ∷ finishes 0 ∷ []) ≡
    place 0 ∷ replied (changed 1 1 2) ∷ replied (tile_of 1) ∷ came (Late 1) ∷ []
late_on_clean = refl

-- ---- a fresh document has no picture

fresh : all_said one (first_world one)
    (call (peek 0 first) ∷ call (tile 0 first) ∷ call (peek 0 first) ∷ call (tile 7 first)
    ∷ call (tile 0 (record { col = 1; row = 0 })) ∷ []) ≡
    replied (stale None 0) ∷ replied (tile_of 0) ∷ replied (tile_of 0) ∷ replied (no_stack 7) ∷ replied outside_tile ∷ []
fresh = refl

-- a peek is no older than the caller's own edit
after_own_edit : all_said one (first_world one) (edits_one (edits.set_opacity 1 10) ∷ submits 0 (peek 0 first) 1 [] ∷ []) ≡
    replied (changed 1 1 2) ∷ replied (stale None 1) ∷ []
after_own_edit = refl

-- what a tile call composed is kept
shown_again : all_said one (first_world one) (edits_one (edits.set_opacity 1 0) ∷ call (tile 0 first)
    ∷ submits 0 (peek 0 first) 1 [] ∷ []) ≡
    replied (changed 1 1 2) ∷ replied (tile_of 1) ∷ replied (tile_of 1) ∷ []
shown_again = refl

two_versions_old : all_said one (first_world one)
    (call (tile 0 first) ∷ edits_one (edits.set_opacity 1 10) ∷ edits_one (edits.set_opacity 1 20) ∷ submits 0 (peek 0 first) 2 []
    ∷ []) ≡
    replied (tile_of 0) ∷ replied (changed 1 1 2) ∷ replied (changed 2 2 2) ∷ replied (stale (Some 0) 2) ∷ []
two_versions_old = refl

-- ---- a group that goes takes its slots with it, and one that comes has them marked

abbrev nested : (width height : ℕ) → Document
nested w h = canvas w h (group 5 plain_group (group 6 plain_group (leaf 7 (layer_of pixel) none) none) none)

abbrev group_run : List Event
group_run = takes ∷ takes ∷ takes ∷ takes ∷ takes ∷ edits_one (edits.delete 5) ∷ finishes 1 ∷ call (undo None) ∷ finishes 3 ∷ []

group_goes : all_said (nested 1 1) (first_world (nested 1 1)) group_run ≡
    place 0 ∷ place 5 ∷ place 6 ∷ place 0 ∷ place 5 ∷ replied (changed 1 1 8) ∷ came Gone ∷ replied (changed 2 1 8) ∷ came (Late 2)
    ∷ []
group_goes = refl

group_came : (stacks (all_after (nested 1 1) (first_world (nested 1 1)) group_run) ≡ 0 ∷ 5 ∷ 6 ∷ [])
    × (shorts (all_after (nested 1 1) (first_world (nested 1 1)) group_run) 6
    ≡ record { has = false; marked = true; good_to = 0; marked_at = 2 } ∷ [])
group_came = (refl, refl)

-- ---- marks

-- hiding the bottommost layer marks every tile
all_marked : shorts (all_after two (all_clean (first_world two)) (edits_one (edits.set_visible 3 false) ∷ [])) 0 ≡
    replicate 16 (record { has = true; marked = true; good_to = 0; marked_at = 1 })
all_marked = refl

-- a fill of one pixel marks one tile of each stack, and a second one raises its last mark alone
abbrev clean : Short
clean = record { has = true; marked = false; good_to = 0; marked_at = 0 }

abbrev marked : (good_to marked_at : ℕ) → Short
marked good_to marked_at = record { has = true; marked = true; good_to = good_to; marked_at = marked_at }

abbrev filled : Event
filled = edits_one (edits.fill 7 (record { x = pos 0; y = pos 0; w = 1; h = 1 }) (1 ∷ 2 ∷ 3 ∷ 4 ∷ []))

abbrev three : List Event → List (List Short)
three events = let w = all_after (nested 70 66) (all_clean (first_world (nested 70 66))) events in map (shorts w) (0 ∷ 5 ∷ 6 ∷ [])

one_of_each : three (filled ∷ []) ≡ replicate 3 (marked 0 1 ∷ clean ∷ clean ∷ clean ∷ [])
one_of_each = refl

once_more : three (filled ∷ filled ∷ []) ≡ replicate 3 (marked 0 2 ∷ clean ∷ clean ∷ clean ∷ [])
once_more = refl

-- what lies off the canvas marks nothing
abbrev away : Document
away = canvas 64 64 (leaf 1 (record (layer_of (record { width = 10; height = 10; bpp = 4; bytes = replicate 400 9 })) {
  x =
      negsuc 99;
  y = negsuc 99;
}) none)

abbrev filled_away : List Event
filled_away = edits_one (edits.fill 1 (record { x = pos 0; y = pos 0; w = 10; h = 10 }) (1 ∷ 2 ∷ 3 ∷ 4 ∷ [])) ∷ []

off_the_canvas : (all_said away (all_clean (first_world away)) filled_away ≡ replied (changed 1 1 2) ∷ [])
    × (shorts (all_after away (all_clean (first_world away)) filled_away) 0 ≡ clean ∷ [])
off_the_canvas = (refl, refl)
