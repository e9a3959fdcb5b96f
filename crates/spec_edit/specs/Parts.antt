-- What an edit changes of which nodes and channels there are, for the definitions that care for no more.
use Rattle.std.specs.Prelude.{ℕ}
use Rattle.spec_edit.specs.Edit.{Edit, fill, write, filter, copy_rect, fill_mask, fill_channel, set_opacity, set_mode}
use Rattle.spec_edit.specs.Edit.{set_visible, set_offset, rename, set_apply_mask, add_mask, drop_mask, new_layer}
use Rattle.spec_edit.specs.Edit.{set_lock_alpha, set_lock_content}
use Rattle.spec_edit.specs.Edit.{new_group, delete, restack, select, select_none, add_channel, drop_channel}
use Rattle.spec_edit.specs.Edit.{set_colours}

-- one node more, the branch of an id taken out or moved, one channel more or less, or just the same nodes and channels
pub data Parts : Type 0 where
  node_more : Parts
  branch_less : (id : ℕ) → Parts
  branch_moved : (id : ℕ) → Parts
  channel_more : Parts
  channel_less : Parts
  same_parts : Parts

abbrev pub parts_of : Edit → Parts
parts_of (fill id rect pixel) = same_parts
parts_of (write id rect bytes) = same_parts
parts_of (filter id rect slot) = same_parts
parts_of (copy_rect id rect from u v) = same_parts
parts_of (fill_mask id rect value) = same_parts
parts_of (fill_channel index rect value) = same_parts
parts_of (set_opacity id value) = same_parts
parts_of (set_mode id mode) = same_parts
parts_of (set_visible id on) = same_parts
parts_of (set_lock_alpha id on) = same_parts
parts_of (set_lock_content id on) = same_parts
parts_of (set_offset id x y) = same_parts
parts_of (rename id name) = same_parts
parts_of (set_apply_mask id on) = same_parts
parts_of (add_mask id) = same_parts
parts_of (drop_mask id) = same_parts
parts_of (new_layer parent place x y w h kind name) = node_more
parts_of (new_group parent place name) = node_more
parts_of (delete id) = branch_less id
parts_of (restack id parent place) = branch_moved id
parts_of (select rect value) = same_parts
parts_of select_none = same_parts
parts_of (add_channel name) = channel_more
parts_of (drop_channel index) = channel_less
parts_of (set_colours bytes) = same_parts
