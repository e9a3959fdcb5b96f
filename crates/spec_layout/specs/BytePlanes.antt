-- The byte planes that are spelled in the file of a document, in the order of writing.
use Rattle.std.specs.Prelude.{ℕ, List, [], ◌++◌, flat_map, Option, Some, None}
use Rattle.spec_document.specs.Document.{Document, Channel}
use Rattle.spec_hierarchy.specs.BytePlanes.{byte_planes}
use Rattle.spec_layout.specs.Layout.{Item, items, Sheet, sheets}

abbrev pub mask_planes : (compression : ℕ) → Option Channel → List (List ℕ)
mask_planes compression None = []
mask_planes compression (Some m) = byte_planes compression m.plane

-- a layer's pixels, or a group's own picture, and its mask behind them
abbrev pub item_planes : (compression : ℕ) → Item → List (List ℕ)
item_planes compression i = byte_planes compression i.plane ++ mask_planes compression i.mask

abbrev pub sheet_planes : (compression : ℕ) → Sheet → List (List ℕ)
sheet_planes compression s = byte_planes compression s.channel.plane

-- the layers and groups, and the channels with the selection behind them
abbrev pub planes_of : Document → List (List ℕ)
planes_of d = flat_map (item_planes d.compression) (items d) ++ flat_map (sheet_planes d.compression) (sheets d)
