-- The document as far as it was read.
use Rattle.std.specs.Prelude.{◌≡◌, ℕ, ◌+◌, ◌≤◌, Some, List}
use Rattle.spec_document.specs.Document.{Document, Nodes, plane_area, mask_area, area, kept_bytes, channel_kept, all_kept}
use Rattle.spec_document.specs.Limits.{IsSide}
use Rattle.spec_document.specs.declared.TheConstants.{MAX_AREA, MAX_KEPT_BYTES}
use Rattle.spec_document.specs.Forest.{size}
use Rattle.spec_document.specs.Changes.{put_last}
use Rattle.xl_tree.specs.Places.{alone}
use Rattle.xl_doc.specs.declared.node.Node.{Node}
use Rattle.xl_doc.specs.declared.node.Body.{Body}
use Rattle.xl_doc.specs.declared.node.Body.TheVariants.{Leaf, Group}
use Rattle.xl_doc.specs.Nodes.{nodes_of, is_group_body}

-- the limits hold, and these are the pixels and the bytes of payload so far
pub record IsDraft (d : Document) (pixels kept : ℕ) : Type 0 where
  pub pixels_are : pixels ≡ area d
  pub kept_is : kept ≡ all_kept d
  pub area : area d ≤ MAX_AREA
  pub kept_bytes : all_kept d ≤ MAX_KEPT_BYTES
  pub width : IsSide d.width
  pub height : IsSide d.height
  pub compression : d.compression ≤ 1

-- the pixels of a layer and its mask, or a canvas for a group
abbrev pub body_area : (canvas : ℕ) → Body → ℕ
body_area canvas (Leaf sheet) = plane_area sheet.plane + mask_area sheet.mask
body_area canvas Group = canvas

abbrev pub body_kept : Body → ℕ
body_kept (Leaf sheet) = channel_kept sheet.mask
body_kept Group = 0

-- the bytes of payload that a node and its mask keep
abbrev pub node_kept : Node → ℕ
node_kept node = kept_bytes node.kept + body_kept node.body

-- a node without children, with the id that the next node gets
abbrev pub branch_of : Document → Node → Nodes
branch_of d node = nodes_of (alone (is_group_body node.body) (1 + size d.nodes) node)

-- the new document is the old one with this node last under the group that a path names
pub record Places (path : List ℕ) (node : Node) (old new : Document) : Type 0 where
  pub put : put_last path (branch_of old node) old.nodes ≡ Some new.nodes
  pub others : new ≡ record old { nodes = new.nodes }
