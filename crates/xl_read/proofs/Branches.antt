-- A group or a layer that was put in is what reading its record gives.
use Rattle.std.proofs.Common.{◌≡◌, ℕ, List, ◌∙◌, ap, sym}
use Rattle.std.specs.Prelude.{Option, Ok}
use Rattle.spec_document.specs.Plane.{Plane}
use Rattle.spec_document.specs.Document.{Document, Channel, bytes_of_kind}
use Rattle.spec_fields.proofs.Steps.{onward}
use Rattle.spec_hierarchy.specs.Reading.{hierarchy_at}
use Rattle.spec_file.specs.Placing.{path_to}
use Rattle.spec_file.specs.Layers.{Head, head_at, path_of, mask_at, layer_rule, layer_at, branch_at, node_at}
use Rattle.xl_doc.specs.Sheet.{Sheet}
use Rattle.xl_doc.specs.declared.node.Node.{Node}
use Rattle.xl_doc.specs.declared.node.Body.{Body}
use Rattle.xl_doc.specs.declared.node.Body.TheVariants as body
use Rattle.xl_read.specs.Draft.{branch_of, Places}
use Rattle.xl_read.specs.Head.{node_of, sheet_of}
use Rattle.xl_read.proofs.Paths.{placed_is}

pub layer_made : (file : List ℕ) (d : Document) (h : Head) (plane : Plane) (mask : Option Channel) (sheet : Sheet)
    → sheet ≡ sheet_of h plane mask → layer_rule d h ≡ Ok tt
    → hierarchy_at file h.hierarchy h.width h.height (bytes_of_kind h.kind) d.compression ≡ Ok plane → mask_at file d h ≡ Ok mask
    → layer_at file d h ≡ Ok (branch_of d (node_of h (body.Leaf sheet)))
unfolding layer_at
layer_made file d h plane mask sheet is rule plane_is mask_is =
    onward (layer_rule d h) tt _ rule
    ∙ (onward (hierarchy_at file h.hierarchy h.width h.height (bytes_of_kind h.kind) d.compression) plane _ plane_is
    ∙ (onward (mask_at file d h) mask _ mask_is ∙ ap (λ s. Ok (branch_of d (node_of h (body.Leaf s)))) (sym is)))

pub node_placed : (file : List ℕ) (at : ℕ) (d new : Document) (h : Head) (path : List ℕ) (node : Node) (made : Body)
    → head_at file at d ≡ Ok h → path_of d h ≡ Ok tt → branch_at file d h ≡ Ok (branch_of d (node_of h made))
    → Places path node d new → path ≡ path_to h.props.list → node ≡ node_of h made → node_at file at d ≡ Ok new
unfolding node_at
node_placed file at d new h path node made head_is free branch_is places path_is node_is =
    onward (head_at file at d) h _ head_is
    ∙ (onward (path_of d h) tt _ free
    ∙ (onward (branch_at file d h) (branch_of d (node_of h made)) _ branch_is
    ∙ placed_is d h new node path (branch_of d (node_of h made)) places path_is (ap (branch_of d) node_is)))
