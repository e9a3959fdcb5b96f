-- Whether a document has a stack, by its tree.
use Rattle.std.proofs.Common.{◌≡◌, ℕ, refl, sym, ◌∙◌, ap}
use Rattle.std.specs.Prelude.{Option, Some, None, is_some, option_map}
use Rattle.spec_document.specs.Forest.{Forest, stack_at}
use Rattle.xl_doc.specs.declared.node.Node.{Node}
use Rattle.xl_doc.specs.Nodes.{nodes_of}
use Rattle.xl_doc.proofs.NodesOf.{stack-nodes_of}

some-mapped : (o : Option (Forest Node Node)) → is_some o ≡ is_some (option_map nodes_of o)
some-mapped None = refl
some-mapped (Some f) = refl

pub has_stack-tree : (stack : ℕ) (f : Forest Node Node) → is_some (stack_at stack f) ≡ is_some (stack_at stack (nodes_of f))
has_stack-tree stack f = some-mapped (stack_at stack f) ∙ sym (ap is_some (stack-nodes_of stack f))
