-- How many layers and groups a document has, as code counts them, and that they can be written.
use Rattle.std.proofs.Common.{◌≡◌, ℕ, List, [], length, refl, sym, ap, ◌∙◌, arith}
use Rattle.spec_document.specs.Forest.{Forest, none, leaf, group, size}
use Rattle.spec_document.specs.Document.{Document}
use Rattle.spec_document.specs.Limits.{IsDocument}
use Rattle.spec_layout.specs.Layout.{items}
use Rattle.xl_doc.specs.declared.node.Node.{Node}
use Rattle.xl_doc.specs.Nodes.{nodes_of}
use Rattle.xl_layout.proofs.Short.{room}
use Rattle.xl_layout.proofs.Whole.{length_items}
use Rattle.xl_layout.proofs.Writable.{items_writable}
use Rattle.xl_write.specs.Appended.{begin_of}
use Rattle.xl_write.specs.Walk.{CanWalk}
use Rattle.xl_write.proofs.GroupsFound.{groups_found}
use Rattle.xl_write.proofs.Walking.{moved}

size-nodes_of : (f : Forest Node Node) → size (nodes_of f) ≡ size f
size-nodes_of none = refl
size-nodes_of (leaf id n under) = omega (arith, size-nodes_of under)
size-nodes_of (group id n children under) = omega (arith, size-nodes_of children, size-nodes_of under)

pub items_count : (d : Document) (f : Forest Node Node) → nodes_of f ≡ d.nodes → size f ≡ length (items d)
items_count d f e = sym (length_items d [] 0 d.nodes ∙ (ap size (sym e) ∙ size-nodes_of f))

pub can_walk : (d : Document) (path : List ℕ) (f : Forest Node Node) (at : ℕ) → IsDocument d → [] ≡ path → d.nodes ≡ nodes_of f
    → begin_of d ≡ at → CanWalk d path 0 (nodes_of f) at
can_walk d path f at is ep en ea =
    moved d [] path 0 d.nodes (nodes_of f) (begin_of d) at ep en ea
    record {
      writable = items_writable d is;
      groups = groups_found d is;
      few = omega (arith, is.few);
      compression = is.compression;
      room = omega (arith, room d is);
    }
