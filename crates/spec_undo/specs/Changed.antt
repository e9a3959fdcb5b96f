-- How many tiles differ between two documents.
use Rattle.std.specs.Prelude.{ℕ, ◌+◌, List, [], ◌∷◌, Option, Some, None}
use Rattle.spec_document.specs.Forest.{none, leaf, group, Found, nothing, a_leaf, a_group, find}
use Rattle.spec_document.specs.Document.{Channel, Layer, Group, Nodes, Document}
use Rattle.spec_undo.specs.Planes.{tile_count, changed_tiles}

-- ---- channels, masks and selections

-- the tiles of a mask or a selection, where there is one
abbrev pub count_if_any : Option Channel → ℕ
count_if_any None = 0
count_if_any (Some c) = tile_count c.plane

-- of two masks or selections, each of which may be there; all tiles of one that stands alone
abbrev pub changed_if_any : Option Channel → Option Channel → ℕ
changed_if_any None other = count_if_any other
changed_if_any (Some c) None = tile_count c.plane
changed_if_any (Some c) (Some d) = changed_tiles c.plane d.plane

-- the tiles of some channels
abbrev pub channels_count : List Channel → ℕ
channels_count [] = 0
channels_count (c ∷ cs) = tile_count c.plane + channels_count cs

-- the channels at the same places; all tiles of those past the end of the other list
abbrev pub changed_channels : List Channel → List Channel → ℕ
changed_channels [] ds = channels_count ds
changed_channels (c ∷ cs) [] = channels_count (c ∷ cs)
changed_channels (c ∷ cs) (d ∷ ds) = changed_tiles c.plane d.plane + changed_channels cs ds

-- ---- layers

-- the tiles of a layer and its mask
abbrev pub layer_count : Layer → ℕ
layer_count l = tile_count l.plane + count_if_any l.mask

-- of a layer and what another document has at its id
abbrev pub changed_layer : Layer → Found Layer Group → ℕ
changed_layer l nothing = layer_count l
changed_layer l (a_leaf m) = changed_tiles l.plane m.plane + changed_if_any l.mask m.mask
changed_layer l (a_group g children) = layer_count l

-- of a layer that another document has not at its id
abbrev pub count_if_alone : Layer → Found Layer Group → ℕ
count_if_alone l nothing = layer_count l
count_if_alone l (a_leaf m) = 0
count_if_alone l (a_group g children) = layer_count l

-- the sum over all layers, each with what the other document has at its id
abbrev pub over_layers : (count : Layer → Found Layer Group → ℕ) → (other : Nodes) → Nodes → ℕ
over_layers count other none = 0
over_layers count other (leaf id l under) = count l (find id other) + over_layers count other under
over_layers count other (group id g children under) = over_layers count other children + over_layers count other under

-- the layers of both, by their ids
abbrev pub changed_nodes : Nodes → Nodes → ℕ
changed_nodes before after = over_layers changed_layer after before + over_layers count_if_alone before after

-- ---- documents

-- the tiles of layers, masks, channels and selections that differ, and all tiles of those that only one of the documents has
abbrev pub changed_in : (before after : Document) → ℕ
changed_in before after =
    (changed_nodes before.nodes after.nodes + changed_channels before.channels after.channels)
    + changed_if_any before.selection after.selection
