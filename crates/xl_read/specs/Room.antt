-- The limits that a layer or a group keeps before it is put in.
use Rattle.std.specs.Prelude.{◌≡◌, ℕ, ◌+◌, ◌*◌, ◌≤◌, Option, Some, None}
use Rattle.spec_document.specs.Document.{Document, Channel, mask_area, channel_kept, area, all_kept}
use Rattle.spec_file.specs.Layers.{Head}
use Rattle.xl_doc.specs.declared.node.Body.{Body}
use Rattle.xl_read.specs.Draft.{body_area, body_kept}
use Rattle.xl_read.specs.Head.{head_kept}
use Rattle.spec_document.specs.declared.TheConstants.{MAX_AREA, MAX_KEPT_BYTES}

-- a mask has these sides
abbrev pub HasSides : (width height : ℕ) → Option Channel → Type 0
HasSides width height None = Unit {0}
HasSides width height (Some mask) = (mask.plane.width ≡ width) × (mask.plane.height ≡ height)

-- a mask has its layer's sides, and the document has room for both
pub record FitsMask (d : Document) (h : Head) (mask : Option Channel) : Type 0 where
  pub sides : HasSides h.width h.height mask
  pub area : area d + (h.width * h.height + mask_area mask) ≤ MAX_AREA
  pub kept : all_kept d + (head_kept h + channel_kept mask) ≤ MAX_KEPT_BYTES

-- the document has room for the node with this body
pub record FitsBody (d : Document) (h : Head) (body : Body) : Type 0 where
  pub area : area d + body_area (d.width * d.height) body ≤ MAX_AREA
  pub kept : all_kept d + (head_kept h + body_kept body) ≤ MAX_KEPT_BYTES
