-- The stacks of a document are those of its tree.
use Rattle.std.proofs.Common.{◌≡◌, ℕ, refl, ◌∙◌, ap}
use Rattle.std.specs.Prelude.{Option, Some, None, option_map, is_some}
use Rattle.spec_document.specs.Forest.{Forest, stack_at}
use Rattle.xl_doc.specs.declared.node.Node.{Node}
use Rattle.xl_doc.specs.Nodes.{nodes_of}
use Rattle.xl_doc.proofs.NodesOf.{stack-nodes_of}

mapped_is_some : {A B : Type 0} (f : A → B) (o : Option A) → is_some (option_map f o) ≡ is_some o
mapped_is_some f None = refl
mapped_is_some f (Some x) = refl

-- a document has a stack where its tree has it
pub some-stack : (stack : ℕ) (f : Forest Node Node) → is_some (stack_at stack (nodes_of f)) ≡ is_some (stack_at stack f)
some-stack stack f = ap is_some (stack-nodes_of stack f) ∙ mapped_is_some nodes_of (stack_at stack f)
