-- The levels of a stack of a document are those of the tree's.
use Rattle.std.proofs.Common.{◌≡◌, ℕ, ◌+◌, max, ◌∙◌, ap, refl}
use Rattle.std.specs.Prelude.{Some, option_map}
use Rattle.spec_document.specs.Forest.{Forest, none, leaf, group, levels, stack_at}
use Rattle.spec_document.specs.Document.{Document}
use Rattle.xl_doc.specs.declared.node.Node.{Node}
use Rattle.xl_doc.specs.Nodes.{nodes_of}
use Rattle.xl_doc.proofs.NodesOf.{stack-nodes_of}
use Rattle.xl_compose.specs.Depth.{levels_in, levels_below}

levels-nodes_of : (f : Forest Node Node) → levels (nodes_of f) ≡ levels f
levels-nodes_of none = refl
levels-nodes_of (leaf id n under) = ap (λ k. max 1 k) (levels-nodes_of under)
levels-nodes_of (group id n children under) =
    ap (λ k. max (1 + k) (levels (nodes_of under))) (levels-nodes_of children)
    ∙ ap (λ k. max (1 + levels children) k) (levels-nodes_of under)

pub levels_are : (d : Document) (stack : ℕ) (f s : Forest Node Node) → d.nodes ≡ nodes_of f → stack_at stack f ≡ Some s
    → levels_below d stack ≡ levels s
levels_are d stack f s nodes is =
    ap (λ n. levels_in (stack_at stack n)) nodes
    ∙ (ap levels_in (stack-nodes_of stack f ∙ ap (option_map nodes_of) is)
    ∙ levels-nodes_of s)
