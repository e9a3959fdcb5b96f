-- The totals of a draft, as it grows.
use Rattle.std.proofs.Common.{◌≡◌, ℕ, ◌+◌, ◌*◌, ◌≤◌, ◌^◌, Bool, true, false, List, [], ◌∷◌, ◌++◌, length, sym, ◌∙◌, ap}
use Rattle.std.proofs.Common.{subst, arith, length-append}
use Rattle.std.specs.Prelude.{Some}
use Rattle.std.proofs.lemmas.List.Sums.{sum_by-append}
use Rattle.spec_document.specs.Forest.{size}
use Rattle.spec_document.specs.Changes.{put_last}
use Rattle.spec_document.proofs.Totals.{total-put_last}
use Rattle.spec_file.proofs.ForestGrows.{size-put_last}
use Rattle.xl_read.proofs.Placed.{size-nodes_of}
use Rattle.spec_document.specs.Document.{Document, Nodes, Channel, plane_area, mask_area, nodes_area, area, kept_bytes}
use Rattle.spec_document.specs.Document.{channel_kept, nodes_kept, all_kept}
use Rattle.xl_doc.specs.declared.node.Node.{Node}
use Rattle.xl_doc.specs.declared.node.Body.{Body}
use Rattle.xl_doc.specs.declared.node.Body.TheVariants as body
use Rattle.xl_doc.specs.Nodes.{nodes_of, is_group_body}
use Rattle.xl_tree.specs.Places.{alone}
use Rattle.xl_read.specs.Draft.{IsDraft, body_area, body_kept, node_kept, branch_of}

-- a channel more
pub channel_added : (d new : Document) (pixels kept more bytes pixels_new kept_new : ℕ) (c : Channel) → IsDraft d pixels kept
    → new ≡ record d { channels = d.channels ++ c ∷ [] }
    → pixels_new ≡ pixels + more → kept_new ≡ kept + bytes → more ≡ d.width * d.height → bytes ≡ kept_bytes c.kept
    → area d + d.width * d.height ≤ 2 ^ 28 → all_kept d + kept_bytes c.kept ≤ 2 ^ 28
    → IsDraft new pixels_new kept_new
channel_added d new pixels kept more bytes pixels_new kept_new c h is pixels_sum kept_sum pixels_are kept_is room space =
    let canvas = d.width * d.height in
    let count : canvas * length (d.channels ++ c ∷ []) ≡ canvas * length d.channels + canvas =
    ap (λ n. canvas * n) (length-append d.channels (c ∷ [])) ∙ omega arith in
    let sum = sum_by-append (λ k. kept_bytes k.kept) d.channels (c ∷ []) in
    let P : Document → Type 0 = λ x. IsDraft x pixels_new kept_new in
    subst P (sym is) (record {
      pixels_are = omega (arith, h.pixels_are, pixels_sum, pixels_are, count);
      kept_is = omega (arith, h.kept_is, kept_sum, kept_is, sum);
      area = omega (arith, room, count);
      kept_bytes = omega (arith, space, sum);
      width = h.width;
      height = h.height;
      compression = h.compression;
    })

alone_area : (canvas id : ℕ) (node : Node)
    → nodes_area canvas (nodes_of (alone (is_group_body node.body) id node)) ≡ body_area canvas node.body
alone_area canvas id node = by node.body
  where
    by : (b : Body) → nodes_area canvas (nodes_of (alone (is_group_body b) id (record node { body = b }))) ≡ body_area canvas b
    by (body.Leaf sheet) = omega arith
    by body.Group = omega arith

alone_kept : (id : ℕ) (node : Node) → nodes_kept (nodes_of (alone (is_group_body node.body) id node)) ≡ node_kept node
alone_kept id node = by node.body
  where
    by : (b : Body) → nodes_kept (nodes_of (alone (is_group_body b) id (record node { body = b })))
        ≡ kept_bytes node.kept + body_kept b
    by (body.Leaf sheet) = omega arith
    by body.Group = omega arith

-- a node more
pub node_added : (d new : Document) (nodes : Nodes) (pixels kept more bytes pixels_new kept_new : ℕ) (path : List ℕ) (node : Node)
    → IsDraft d pixels kept
    → put_last path (branch_of d node) d.nodes ≡ Some nodes → new ≡ record d { nodes = nodes }
    → pixels_new ≡ pixels + more → kept_new ≡ kept + bytes → more ≡ body_area (d.width * d.height) node.body
    → bytes ≡ node_kept node
    → area d + body_area (d.width * d.height) node.body ≤ 2 ^ 28 → all_kept d + node_kept node ≤ 2 ^ 28
    → IsDraft new pixels_new kept_new
node_added d new nodes pixels kept more bytes pixels_new kept_new path node h put is pixels_sum kept_sum pixels_are kept_is room
    space =
    let canvas = d.width * d.height in
    let branch : Nodes = branch_of d node in
    let pixels_more = total-put_last (λ l. plane_area l.plane + mask_area l.mask) (λ g. canvas) path branch d.nodes nodes put in
    let kept_more = total-put_last (λ l. kept_bytes l.kept + channel_kept l.mask)
    (λ g. kept_bytes g.kept) path branch d.nodes nodes put in
    let pixels_one = alone_area canvas (1 + size d.nodes) node in
    let kept_one = alone_kept (1 + size d.nodes) node in
    let P : Document → Type 0 = λ x. IsDraft x pixels_new kept_new in
    subst P (sym is) (record {
      pixels_are = omega (arith, h.pixels_are, pixels_sum, pixels_are, pixels_more, pixels_one);
      kept_is = omega (arith, h.kept_is, kept_sum, kept_is, kept_more, kept_one);
      area = omega (arith, room, pixels_more, pixels_one);
      kept_bytes = omega (arith, space, kept_more, kept_one);
      width = h.width;
      height = h.height;
      compression = h.compression;
    })

-- one node more
pub size_placed : (path : List ℕ) (d : Document) (node : Node) (nodes : Nodes)
    → put_last path (branch_of d node) d.nodes ≡ Some nodes → size nodes ≡ 1 + size d.nodes
size_placed path d node nodes put =
    size-put_last path (branch_of d node) d.nodes nodes put
    ∙ (ap (λ n. size d.nodes + n) (size-nodes_of (alone (is_group_body node.body) (1 + size d.nodes) node))
    ∙ one (is_group_body node.body))
  where
    one : (mark : Bool) → size d.nodes + size (alone mark (1 + size d.nodes) node) ≡ 1 + size d.nodes
    one true = omega arith
    one false = omega arith
