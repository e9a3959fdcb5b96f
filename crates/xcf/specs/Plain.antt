-- Groups of edits that need nothing beside them: no filter, and each edit within the limits of its type.
use Rattle.std.specs.Prelude.{◌≡◌, ◌⊎◌, ℕ, suc, ◌<◌, ◌≤◌, ◌&&◌, Bool, true, false, if◌then◌else◌, List, [], ◌∷◌}
use Rattle.std.specs.Prelude.{length, Option, Some, None, Result, Ok, Err}
use Rattle.spec_edit.specs.Edit.{Edit, fill, write, filter, copy_rect, fill_mask, fill_channel, set_opacity, set_mode}
use Rattle.spec_edit.specs.Edit.{set_visible, set_lock_alpha, set_lock_content, set_offset, rename, set_apply_mask, add_mask}
use Rattle.spec_edit.specs.Edit.{drop_mask, new_layer, new_group, delete, restack, select, select_none, add_channel, drop_channel}
use Rattle.spec_edit.specs.Edit.{set_colours}
use Rattle.spec_file.specs.Header.{is_side}
use Rattle.spec_script.specs.Commands.{are_colours}
use Rattle.spec_history.specs.Calls.{IsGroupOfEdits}
use Rattle.spec_history.specs.declared.TheConstants.{MAX_EDITS}
use Rattle.xcf.specs.declared.errors.NotGroup.{NotGroup}
use Rattle.xcf.specs.declared.errors.NotGroup.TheVariants.{Count, NotPlain}

abbrev pub is_plain : Edit → Bool
is_plain (filter id rect slot) = false
is_plain (new_layer parent place x y w h kind name) = is_side w && is_side h
is_plain (set_colours bytes) = are_colours bytes
is_plain (fill id rect pixel) = true
is_plain (write id rect bytes) = true
is_plain (copy_rect id rect source u v) = true
is_plain (fill_mask id rect value) = true
is_plain (fill_channel index rect value) = true
is_plain (set_opacity id value) = true
is_plain (set_mode id mode) = true
is_plain (set_visible id on) = true
is_plain (set_lock_alpha id on) = true
is_plain (set_lock_content id on) = true
is_plain (set_offset id x y) = true
is_plain (rename id name) = true
is_plain (set_apply_mask id on) = true
is_plain (add_mask id) = true
is_plain (drop_mask id) = true
is_plain (new_group parent place name) = true
is_plain (delete id) = true
is_plain (restack id parent place) = true
is_plain (select rect value) = true
is_plain select_none = true
is_plain (add_channel name) = true
is_plain (drop_channel index) = true

-- the place of the first edit that is not plain, where the first of these edits has a place
abbrev pub unplain_from : (place : ℕ) → List Edit → Option ℕ
unplain_from place [] = None
unplain_from place (edit ∷ edits) = if is_plain edit then unplain_from (suc place) edits else Some place

abbrev pub first_unplain : List Edit → Option ℕ
first_unplain edits = unplain_from 0 edits

-- 1 to 1024 edits, each within its type, and all of them plain
abbrev pub IsPlainGroup : List Edit → Type 0
IsPlainGroup edits = IsGroupOfEdits edits × (first_unplain edits ≡ None)

-- it is a group of plain edits, or what is wrong with it
abbrev pub IsChecked : List Edit → Result (Unit {0}) NotGroup → Type 0
IsChecked edits (Ok done) = IsPlainGroup edits
IsChecked edits (Err Count) = (edits ≡ []) ⊎ (MAX_EDITS < length edits)
IsChecked edits (Err (NotPlain place)) = (length edits ≤ MAX_EDITS) × (first_unplain edits ≡ Some place)
