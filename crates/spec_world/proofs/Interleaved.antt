-- Two long runs in which calls, jobs and saves interleave. What they answer and leave was computed apart from the definitions.
use Rattle.std.specs.Prelude.{◌≡◌, ℕ, ◌*◌, Bool, true, false, pos, negsuc, List, [], ◌∷◌, Some, None, refl, flat_map, replicate}
use Rattle.spec_document.specs.declared.Mode.TheVariants.{Multiply}
use Rattle.spec_document.specs.declared.TileAt.{TileAt}
use Rattle.spec_document.specs.Forest.{none, leaf, group}
use Rattle.spec_document.specs.Plane.{Plane}
use Rattle.spec_document.specs.Document.{Document}
use Rattle.spec_document.proofs.Samples.{canvas, layer_of, plain_group}
use Rattle.spec_edit.specs.declared.EditRefused.TheVariants.{NoNode, IsGroup}
use Rattle.spec_edit.specs.Edit as edits
use Rattle.spec_cache.specs.declared.Finished.TheVariants.{Installed, Late}
use Rattle.spec_history.specs.Machine.{edit, undo, redo, tile, peek, top, changed, refused, moved, nothing_to_undo}
use Rattle.spec_history.specs.Machine.{nothing_to_redo, tile_of, stale, outside_tile, top_is}
use Rattle.spec_world.specs.declared.SaveEnd.TheVariants.{Done, Memory}
use Rattle.spec_world.specs.World.{first_world}
use Rattle.spec_world.specs.Events.{Event, submits, takes, finishes, begins_save, ends_save}
use Rattle.spec_world.proofs.Shown.{replied, took, came, silent, all_said, all_after, Short, in_short, picture_sums}
use Rattle.spec_world.proofs.Shown.{all_kept, all_right}

abbrev at : (col row : ℕ) → TileAt
at c r = record { col = c; row = r }

abbrev s : (has is_marked : Bool) (good_to marked_at : ℕ) → Short
s has is_marked good_to marked_at = record { has = has; marked = is_marked; good_to = good_to; marked_at = marked_at }

-- a uniform plane
abbrev flat : (width height : ℕ) → (pixel : List ℕ) → Plane
flat w h pixel = record { width = w; height = h; bpp = 4; bytes = flat_map (λ p. p) (replicate (w * h) pixel) }

-- a canvas of three tiles: a group with a layer and a group over two tiles, and a multiply layer below over the last two
abbrev base : Document
base = canvas 130 2 (
    group 1 plain_group
    (leaf 2 (layer_of (flat 4 2 (9 ∷ 8 ∷ 7 ∷ 200 ∷ [])))
    (group 3 plain_group (leaf 4 (record (layer_of (flat 4 1 (50 ∷ 60 ∷ 70 ∷ 255 ∷ []))) { x = pos 62 }) none) none))
    (leaf 5 (record (layer_of (flat 6 1 (250 ∷ 100 ∷ 30 ∷ 128 ∷ []))) { mode = Multiply; x = pos 124; y = pos 1 }) none))

abbrev first_events : List Event
first_events =
    submits 1 (edit None (edits.fill 5 (record { x = pos 0; y = pos 0; w = 1; h = 1 }) (240 ∷ 132 ∷ 119 ∷ 98 ∷ []) ∷ [])) 0 []
    ∷ submits 2 (tile 1 (at 1 0)) 0 []
    ∷ submits 1 (edit (Some 0) (edits.set_opacity 1 0
    ∷ edits.fill 1 (record { x = pos 1; y = pos 0; w = 3; h = 1 }) (198 ∷ 218 ∷ 202 ∷ 227 ∷ []) ∷ [])) 0 []
    ∷ submits 1 (edit None (edits.delete 99 ∷ [])) 0 []
    ∷ submits 2 (top) 1 []
    ∷ submits 0 (undo None) 0 []
    ∷ takes
    ∷ finishes 0
    ∷ begins_save 2
    ∷ takes
    ∷ takes
    ∷ submits 2 (undo None) 1 []
    ∷ submits 0 (edit None (edits.fill 1 (record { x = pos 0; y = pos 0; w = 3; h = 1 }) (247 ∷ 45 ∷ 176 ∷ 34 ∷ [])
    ∷ edits.new_group 1 0 [] ∷ [])) 0 []
    ∷ submits 1 (peek 1 (at 2 0)) 1 []
    ∷ submits 0 (tile 3 (at 3 0)) 0 []
    ∷ submits 2 (undo None) 1 []
    ∷ submits 1 (edit None (edits.set_visible 2 true ∷ [])) 2 []
    ∷ submits 1 (redo) 0 []
    ∷ submits 1 (redo) 2 []
    ∷ submits 2 (peek 3 (at 0 0)) 2 []
    ∷ submits 0 (undo None) 2 []
    ∷ finishes 1
    ∷ ends_save 2 Memory
    ∷ submits 2 (undo None) 4 []
    ∷ submits 2 (undo None) 3 []
    ∷ submits 2 (edit None (edits.new_layer 1 0 (pos 60) (pos 0) 6 2 1 [] ∷ [])) 0 []
    ∷ submits 0 (edit None (edits.delete 3 ∷ [])) 5 []
    ∷ submits 1 (redo) 6 []
    ∷ finishes 0
    ∷ submits 2 (undo None) 0 []
    ∷ takes
    ∷ submits 1 (edit None (edits.set_visible 2 true ∷ edits.set_mode 1 19 ∷ [])) 7 []
    ∷ submits 2 (peek 0 (at 0 0)) 8 []
    ∷ submits 0 (peek 1 (at 1 0)) 0 []
    ∷ submits 0 (edit (Some 7) (edits.set_visible 3 false ∷ edits.set_mode 5 3 ∷ [])) 7 []
    ∷ submits 1 (top) 7 []
    ∷ submits 1 (tile 1 (at 2 0)) 7 []
    ∷ submits 2 (edit None (edits.set_opacity 5 255 ∷ [])) 8 []
    ∷ finishes 0
    ∷ submits 1 (edit None (edits.fill 99 (record { x = pos 1; y = pos 0; w = 1; h = 1 }) (34 ∷ 146 ∷ 61 ∷ 125 ∷ [])
    ∷ edits.set_opacity 6 255 ∷ [])) 0 []
    ∷ submits 2 (peek 3 (at 0 0)) 0 []
    ∷ submits 2 (undo None) 8 []
    ∷ submits 0 (redo) 9 []
    ∷ submits 1 (undo None) 10 []
    ∷ takes
    ∷ submits 2 (edit None (edits.fill 1 (record { x = pos 0; y = pos 0; w = 1; h = 1 }) (140 ∷ 65 ∷ 3 ∷ 249 ∷ []) ∷ [])) 11 []
    ∷ finishes 0
    ∷ takes
    ∷ submits 0 (edit None (edits.new_group 0 0 [] ∷ edits.set_opacity 1 0 ∷ [])) 0 []
    ∷ submits 1 (tile 0 (at 3 0)) 12 []
    ∷ submits 1 (undo None) 13 []
    ∷ submits 1 (peek 1 (at 1 0)) 0 []
    ∷ submits 2 (top) 0 []
    ∷ submits 1 (edit None (edits.fill 3 (record { x = pos 1; y = pos 0; w = 3; h = 1 }) (22 ∷ 220 ∷ 27 ∷ 190 ∷ []) ∷ [])) 13 []
    ∷ takes
    ∷ submits 1 (undo (Some 5)) 14 []
    ∷ submits 1 (edit None (edits.fill 4 (record { x = pos 0; y = pos 0; w = 3; h = 1 }) (66 ∷ 14 ∷ 166 ∷ 191 ∷ []) ∷ [])) 14 []
    ∷ submits 0 (edit None (edits.set_mode 5 3 ∷ edits.set_mode 3 19 ∷ [])) 15 []
    ∷ takes
    ∷ []

first_said : all_said base (first_world base) first_events ≡
    replied (changed 1 1 6)
    ∷ replied (tile_of 1)
    ∷ replied (moved 1)
    ∷ replied (refused 0 (NoNode 99))
    ∷ replied (top_is (Some 1) 1)
    ∷ replied (changed 2 1 6)
    ∷ took (Some (record { stack = 0; at = (at 0 0) }))
    ∷ came Installed
    ∷ silent
    ∷ took (Some (record { stack = 0; at = (at 1 0) }))
    ∷ took (Some (record { stack = 0; at = (at 2 0) }))
    ∷ replied (nothing_to_undo)
    ∷ replied (refused 0 (IsGroup 1))
    ∷ replied (stale None 1)
    ∷ replied (outside_tile)
    ∷ replied (nothing_to_undo)
    ∷ replied (changed 3 2 6)
    ∷ replied (nothing_to_redo)
    ∷ replied (nothing_to_redo)
    ∷ replied (stale None 2)
    ∷ replied (changed 4 2 6)
    ∷ came Installed
    ∷ silent
    ∷ replied (nothing_to_undo)
    ∷ replied (nothing_to_undo)
    ∷ replied (changed 5 3 7)
    ∷ replied (changed 6 4 7)
    ∷ replied (nothing_to_redo)
    ∷ came (Late 6)
    ∷ replied (changed 7 4 7)
    ∷ took (Some (record { stack = 1; at = (at 0 0) }))
    ∷ replied (changed 8 5 7)
    ∷ replied (stale (Some 2) 8)
    ∷ replied (tile_of 4)
    ∷ replied (moved 8)
    ∷ replied (top_is (Some 5) 8)
    ∷ replied (tile_of 8)
    ∷ replied (changed 9 6 7)
    ∷ came (Late 8)
    ∷ replied (refused 0 (NoNode 99))
    ∷ replied (stale None 0)
    ∷ replied (changed 10 6 7)
    ∷ replied (changed 11 6 7)
    ∷ replied (changed 12 6 7)
    ∷ took (Some (record { stack = 1; at = (at 1 0) }))
    ∷ replied (refused 0 (IsGroup 1))
    ∷ came Installed
    ∷ took (Some (record { stack = 3; at = (at 0 0) }))
    ∷ replied (changed 13 7 8)
    ∷ replied (outside_tile)
    ∷ replied (changed 14 7 8)
    ∷ replied (tile_of 14)
    ∷ replied (top_is (Some 5) 14)
    ∷ replied (refused 0 (IsGroup 3))
    ∷ took (Some (record { stack = 3; at = (at 1 0) }))
    ∷ replied (changed 15 5 8)
    ∷ replied (changed 16 8 8)
    ∷ replied (changed 17 9 8)
    ∷ took (Some (record { stack = 3; at = (at 2 0) }))
    ∷ []
first_said = refl

first_slots : in_short (all_after base (first_world base) first_events) ≡
    (0, s true true 2 17 ∷ s false true 0 17 ∷ s true true 8 17 ∷ [])
    ∷ (1, s false true 0 17 ∷ s true true 15 17 ∷ s true false 0 0 ∷ [])
    ∷ (3, s false true 0 16 ∷ s false true 0 16 ∷ s false true 0 7 ∷ [])
    ∷ []
first_slots = refl

first_pictures : picture_sums (all_after base (first_world base) first_events) ≡
    (588122 ∷ 0 ∷ 622375 ∷ [])
    ∷ (0 ∷ 69737 ∷ 0 ∷ [])
    ∷ (0 ∷ 0 ∷ 0 ∷ [])
    ∷ []
first_pictures = refl

first_kept : all_kept base (all_after base (first_world base) first_events) ≡
    (None ∷ None ∷ None ∷ [])
    ∷ (None ∷ (Some 4) ∷ (Some 17) ∷ [])
    ∷ (None ∷ None ∷ None ∷ [])
    ∷ []
first_kept = refl

first_right : all_right base (all_after base (first_world base) first_events) ≡ true
first_right = refl

abbrev second_events : List Event
second_events =
    submits 2 (tile 1 (at 2 0)) 0 []
    ∷ submits 1 (edit None (edits.set_mode 2 0 ∷ [])) 0 []
    ∷ submits 2 (edit None (edits.set_mode 4 3 ∷ edits.set_mode 2 19 ∷ [])) 0 []
    ∷ submits 2 (edit None (edits.fill 4 (record { x = pos 1; y = pos 0; w = 3; h = 1 }) (100 ∷ 119 ∷ 150 ∷ 255 ∷ []) ∷ [])) 0 []
    ∷ submits 2 (edit None (edits.fill 99 (record { x = pos 0; y = pos 0; w = 3; h = 1 }) (161 ∷ 117 ∷ 147 ∷ 15 ∷ []) ∷ [])) 0 []
    ∷ takes
    ∷ submits 1 (redo) 3 []
    ∷ submits 2 (edit None (edits.set_opacity 1 100 ∷ edits.new_group 0 0 [] ∷ [])) 2 []
    ∷ submits 0 (edit None (edits.set_visible 1 false ∷ [])) 0 []
    ∷ submits 0 (edit None (edits.new_layer 1 0 (pos 60) (pos 0) 6 2 1 [] ∷ [])) 4 []
    ∷ begins_save 0
    ∷ submits 0 (redo) 6 []
    ∷ submits 0 (redo) 0 []
    ∷ submits 1 (undo (Some 6)) 5 []
    ∷ ends_save 0 Done
    ∷ submits 0 (edit None (edits.set_mode 1 0 ∷ edits.set_offset 1 (pos 61) (pos 0) ∷ [])) 7 []
    ∷ submits 2 (edit None (edits.set_offset 3 (pos 61) (pos 1) ∷ edits.new_layer 1 0 (pos 60) (pos 0) 6 2 1 [] ∷ [])) 0 []
    ∷ submits 0 (edit (Some 7) (edits.set_offset 6 (pos 0) (pos 1) ∷ edits.new_group 0 0 [] ∷ [])) 0 []
    ∷ submits 2 (edit (Some 7) (edits.new_group 1 0 [] ∷ edits.set_visible 4 false ∷ [])) 6 []
    ∷ submits 0 (edit None (edits.set_opacity 4 100 ∷ [])) 0 []
    ∷ submits 0 (edit None (edits.fill 99 (record { x = pos 0; y = pos 0; w = 3; h = 1 }) (70 ∷ 230 ∷ 169 ∷ 71 ∷ [])
    ∷ edits.fill 1 (record { x = pos 1; y = pos 0; w = 3; h = 1 }) (159 ∷ 17 ∷ 10 ∷ 38 ∷ []) ∷ [])) 9 []
    ∷ takes
    ∷ submits 1 (undo (Some 8)) 0 []
    ∷ submits 0 (tile 1 (at 2 0)) 10 []
    ∷ takes
    ∷ finishes 1
    ∷ finishes 0
    ∷ finishes 0
    ∷ submits 0 (peek 8 (at 0 0)) 9 []
    ∷ submits 1 (edit None (edits.new_group 7 0 [] ∷ [])) 10 []
    ∷ takes
    ∷ submits 0 (edit None (edits.delete 4 ∷ [])) 9 []
    ∷ submits 1 (tile 6 (at 2 0)) 0 []
    ∷ submits 2 (undo None) 0 []
    ∷ submits 1 (edit (Some 11) (edits.set_offset 6 (pos 61) (negsuc 0) ∷ [])) 11 []
    ∷ takes
    ∷ takes
    ∷ submits 0 (edit None (edits.fill 2 (record { x = pos 0; y = pos 0; w = 1; h = 1 }) (254 ∷ 179 ∷ 20 ∷ 32 ∷ []) ∷ [])) 12 []
    ∷ submits 2 (edit None (edits.new_group 3 0 [] ∷ [])) 12 []
    ∷ submits 0 (tile 0 (at 2 0)) 13 []
    ∷ submits 2 (peek 3 (at 1 0)) 13 []
    ∷ submits 2 (edit None (edits.set_offset 5 (pos 0) (negsuc 0) ∷ [])) 0 []
    ∷ submits 2 (edit None (edits.set_mode 6 0 ∷ edits.set_mode 9 3 ∷ [])) 0 []
    ∷ submits 1 (edit None (edits.set_opacity 5 100
    ∷ edits.fill 3 (record { x = pos 1; y = pos 0; w = 1; h = 1 }) (44 ∷ 210 ∷ 198 ∷ 66 ∷ []) ∷ [])) 16 []
    ∷ submits 1 (edit (Some 16) (edits.fill 6 (record { x = pos 1; y = pos 0; w = 3; h = 1 }) (104 ∷ 50 ∷ 63 ∷ 109 ∷ []) ∷ [])) 0 []
    ∷ begins_save 1
    ∷ submits 0 (tile 3 (at 2 0)) 15 []
    ∷ submits 1 (undo None) 16 []
    ∷ submits 0 (tile 6 (at 0 0)) 0 []
    ∷ submits 0 (top) 0 []
    ∷ submits 2 (tile 1 (at 2 0)) 0 []
    ∷ finishes 2
    ∷ takes
    ∷ takes
    ∷ finishes 3
    ∷ submits 2 (peek 1 (at 1 0)) 16 []
    ∷ submits 0 (undo (Some 12)) 16 []
    ∷ submits 2 (tile 8 (at 2 0)) 18 []
    ∷ submits 0 (redo) 17 []
    ∷ submits 2 (undo None) 18 []
    ∷ submits 2 (undo None) 20 []
    ∷ submits 2 (edit None (edits.set_opacity 1 255 ∷ [])) 21 []
    ∷ takes
    ∷ submits 1 (peek 1 (at 0 0)) 21 []
    ∷ submits 1 (redo) 22 []
    ∷ submits 1 (edit None (edits.new_group 0 0 [] ∷ [])) 0 []
    ∷ submits 0 (peek 1 (at 2 0)) 0 []
    ∷ submits 0 (edit None (edits.delete 6 ∷ edits.new_layer 8 0 (pos 60) (pos 0) 6 2 1 [] ∷ [])) 22 []
    ∷ takes
    ∷ finishes 0
    ∷ submits 2 (redo) 24 []
    ∷ submits 2 (peek 10 (at 2 0)) 0 []
    ∷ submits 0 (edit None (edits.set_visible 8 false ∷ edits.restack 4 1 0 ∷ [])) 0 []
    ∷ submits 0 (edit None (edits.set_visible 10 false ∷ [])) 24 []
    ∷ submits 0 (edit None (edits.set_visible 8 false ∷ [])) 26 []
    ∷ takes
    ∷ submits 0 (peek 1 (at 0 0)) 27 []
    ∷ submits 2 (edit None (edits.fill 11 (record { x = pos 0; y = pos 0; w = 1; h = 1 }) (94 ∷ 58 ∷ 104 ∷ 88 ∷ [])
    ∷ edits.set_visible 99 false ∷ [])) 0 []
    ∷ submits 1 (edit (Some 26) (edits.set_visible 11 true ∷ [])) 27 []
    ∷ submits 2 (edit None (edits.set_opacity 3 100 ∷ edits.new_layer 1 0 (pos 0) (pos 0) 6 2 1 [] ∷ [])) 0 []
    ∷ takes
    ∷ submits 2 (undo None) 27 []
    ∷ finishes 4
    ∷ submits 0 (peek 3 (at 1 0)) 29 []
    ∷ takes
    ∷ takes
    ∷ takes
    ∷ submits 2 (redo) 29 []
    ∷ takes
    ∷ takes
    ∷ []

second_said : all_said base (first_world base) second_events ≡
    replied (tile_of 0)
    ∷ replied (changed 1 1 6)
    ∷ replied (changed 2 2 6)
    ∷ replied (changed 3 3 6)
    ∷ replied (refused 0 (NoNode 99))
    ∷ took (Some (record { stack = 0; at = (at 0 0) }))
    ∷ replied (nothing_to_redo)
    ∷ replied (changed 4 4 7)
    ∷ replied (changed 5 5 7)
    ∷ replied (changed 6 6 8)
    ∷ silent
    ∷ replied (nothing_to_redo)
    ∷ replied (nothing_to_redo)
    ∷ replied (changed 7 6 8)
    ∷ silent
    ∷ replied (refused 1 (IsGroup 1))
    ∷ replied (refused 0 (IsGroup 3))
    ∷ replied (refused 0 (IsGroup 6))
    ∷ replied (changed 8 7 9)
    ∷ replied (changed 9 8 9)
    ∷ replied (refused 0 (NoNode 99))
    ∷ took (Some (record { stack = 0; at = (at 1 0) }))
    ∷ replied (changed 10 8 9)
    ∷ replied (tile_of 10)
    ∷ took (Some (record { stack = 0; at = (at 2 0) }))
    ∷ came (Late 10)
    ∷ came (Late 10)
    ∷ came Installed
    ∷ replied (stale None 9)
    ∷ replied (refused 0 (NoNode 7))
    ∷ took (Some (record { stack = 1; at = (at 0 0) }))
    ∷ replied (changed 11 9 9)
    ∷ replied (tile_of 11)
    ∷ replied (changed 12 9 9)
    ∷ replied (moved 12)
    ∷ took (Some (record { stack = 1; at = (at 1 0) }))
    ∷ took (Some (record { stack = 3; at = (at 0 0) }))
    ∷ replied (changed 13 10 9)
    ∷ replied (changed 14 11 10)
    ∷ replied (tile_of 14)
    ∷ replied (stale None 13)
    ∷ replied (changed 15 12 10)
    ∷ replied (changed 16 13 10)
    ∷ replied (refused 1 (IsGroup 3))
    ∷ replied (refused 0 (IsGroup 6))
    ∷ silent
    ∷ replied (tile_of 16)
    ∷ replied (changed 17 13 10)
    ∷ replied (tile_of 17)
    ∷ replied (top_is (Some 12) 17)
    ∷ replied (tile_of 17)
    ∷ came Installed
    ∷ took (Some (record { stack = 3; at = (at 1 0) }))
    ∷ took (Some (record { stack = 6; at = (at 1 0) }))
    ∷ came Installed
    ∷ replied (stale None 16)
    ∷ replied (changed 18 12 10)
    ∷ replied (tile_of 18)
    ∷ replied (changed 19 12 10)
    ∷ replied (changed 20 12 10)
    ∷ replied (changed 21 11 10)
    ∷ replied (changed 22 14 10)
    ∷ took (Some (record { stack = 8; at = (at 0 0) }))
    ∷ replied (stale None 21)
    ∷ replied (nothing_to_redo)
    ∷ replied (changed 23 15 11)
    ∷ replied (tile_of 23)
    ∷ replied (changed 24 16 12)
    ∷ took (Some (record { stack = 8; at = (at 1 0) }))
    ∷ came (Late 24)
    ∷ replied (nothing_to_redo)
    ∷ replied (stale None 0)
    ∷ replied (changed 25 17 12)
    ∷ replied (changed 26 18 12)
    ∷ replied (changed 27 19 12)
    ∷ took (Some (record { stack = 10; at = (at 0 0) }))
    ∷ replied (stale None 27)
    ∷ replied (refused 1 (NoNode 99))
    ∷ replied (moved 27)
    ∷ replied (changed 28 20 13)
    ∷ took (Some (record { stack = 10; at = (at 1 0) }))
    ∷ replied (changed 29 20 13)
    ∷ came Installed
    ∷ replied (stale None 29)
    ∷ took (Some (record { stack = 10; at = (at 2 0) }))
    ∷ took (Some (record { stack = 0; at = (at 0 0) }))
    ∷ took (Some (record { stack = 0; at = (at 1 0) }))
    ∷ replied (changed 30 20 13)
    ∷ took (Some (record { stack = 0; at = (at 2 0) }))
    ∷ took (Some (record { stack = 1; at = (at 0 0) }))
    ∷ []
second_said = refl

second_slots : in_short (all_after base (first_world base) second_events) ≡
    (0, s false true 0 30 ∷ s false true 0 27 ∷ s true true 14 20 ∷ [])
    ∷ (1, s false true 0 30 ∷ s false true 0 27 ∷ s true false 0 0 ∷ [])
    ∷ (3, s true true 24 25 ∷ s false true 0 25 ∷ s true false 0 0 ∷ [])
    ∷ (8, s false true 0 24 ∷ s false true 0 24 ∷ s true false 0 8 ∷ [])
    ∷ (10, s true false 0 23 ∷ s false true 0 23 ∷ s false true 0 23 ∷ [])
    ∷ []
second_slots = refl

second_pictures : picture_sums (all_after base (first_world base) second_events) ≡
    (0 ∷ 0 ∷ 622375 ∷ [])
    ∷ (0 ∷ 0 ∷ 0 ∷ [])
    ∷ (0 ∷ 0 ∷ 0 ∷ [])
    ∷ (0 ∷ 0 ∷ 0 ∷ [])
    ∷ (0 ∷ 0 ∷ 0 ∷ [])
    ∷ []
second_pictures = refl

second_kept : all_kept base (all_after base (first_world base) second_events) ≡
    (None ∷ None ∷ (Some 14) ∷ [])
    ∷ (None ∷ None ∷ (Some 30) ∷ [])
    ∷ (None ∷ None ∷ (Some 30) ∷ [])
    ∷ (None ∷ None ∷ (Some 30) ∷ [])
    ∷ (None ∷ None ∷ None ∷ [])
    ∷ []
second_kept = refl

second_right : all_right base (all_after base (first_world base) second_events) ≡ true
second_right = refl
