-- Changes of a layer.
use Rattle.std.specs.Prelude.{true, [], Some, None}
use Rattle.spec_document.specs.Document.{Layer, Channel}
use Rattle.spec_document.specs.Limits.{IsOffset}
use Rattle.spec_edit.specs.Effect.{flat}
use Rattle.xl_doc.specs.Sheet.{Sheet, FitsMask}
use Rattle.xl_edit.specs.declared.layers.LayerChange.{LayerChange}
use Rattle.xl_edit.specs.declared.layers.LayerChange.TheVariants.{Offset, ApplyMask, AddMask, DropMask}

-- a layer with these pixels may be changed so
abbrev pub Takes : LayerChange → Sheet → Type 0
Takes (Offset x y) s = IsOffset x × IsOffset y
Takes (ApplyMask on) s = Unit {0}
Takes (AddMask mask) s = FitsMask s.plane (Some mask)
Takes DropMask s = Unit {0}

-- what it makes of the pixels and their place
abbrev pub sheet_changed : LayerChange → Sheet → Sheet
sheet_changed (Offset x y) s = record s { x = x; y = y }
sheet_changed (ApplyMask on) s = record s { apply_mask = on }
sheet_changed (AddMask mask) s = record s { mask = Some mask; apply_mask = true }
sheet_changed DropMask s = record s { mask = None }

-- what it makes of a layer
abbrev pub layer_changed : LayerChange → Layer → Layer
layer_changed (Offset x y) l = record l { x = x; y = y }
layer_changed (ApplyMask on) l = record l { apply_mask = on }
layer_changed (AddMask mask) l = record l { mask = Some mask; apply_mask = true }
layer_changed DropMask l = record l { mask = None }

-- a mask that shows all of these pixels
abbrev pub mask_of_sheet : Sheet → Channel
mask_of_sheet s = record { name = []; kept = []; plane = flat s.plane.width s.plane.height 1 255 }
