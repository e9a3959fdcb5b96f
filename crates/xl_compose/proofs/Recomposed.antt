-- The stack of a document whose picture is asked for.
use Rattle.std.proofs.Common.{◌≡◌, ℕ, ◌∙◌, ap, subst}
use Rattle.std.specs.Prelude.{Option, Some, None, IsSome, option_map}
use Rattle.spec_document.specs.Forest.{Forest, stack_at}
use Rattle.spec_document.specs.Document.{Document}
use Rattle.spec_document.specs.Picture.{picture, pixel_of, stack_pixel}
use Rattle.xl_doc.specs.declared.node.Node.{Node}
use Rattle.xl_doc.specs.Nodes.{nodes_of}
use Rattle.xl_doc.proofs.NodesOf.{stack-nodes_of}
use Rattle.xl_compose.specs.Cost.{visible_in, visible_of, visible_below}

some_before : (o : Option (Forest Node Node)) → IsSome (option_map nodes_of o) → IsSome o
some_before None h = h
some_before (Some f) h = h

-- where the document has the stack, its tree has it
pub some_stack : (stack : ℕ) (f : Forest Node Node) → IsSome (stack_at stack (nodes_of f)) → IsSome (stack_at stack f)
some_stack stack f h = let P : Option _ → Type 0 = IsSome in some_before (stack_at stack f) (subst P (stack-nodes_of stack f) h)

-- a pixel of the picture is one of the stack
pub picture_is : (d : Document) (stack x y : ℕ) (f s : Forest Node Node) → d.nodes ≡ nodes_of f → stack_at stack f ≡ Some s
    → picture d stack x y ≡ stack_pixel d.colours x y (nodes_of s)
picture_is d stack x y f s nodes is =
    ap (λ n. pixel_of d.colours x y (stack_at stack n)) nodes
    ∙ ap (pixel_of d.colours x y) (stack-nodes_of stack f ∙ ap (option_map nodes_of) is)

-- the visible nodes of the picture's stack
pub count_is : (d : Document) (stack : ℕ) (f s : Forest Node Node) → d.nodes ≡ nodes_of f → stack_at stack f ≡ Some s
    → visible_below d stack ≡ visible_in (nodes_of s)
count_is d stack f s nodes is =
    ap (λ n. visible_of (stack_at stack n)) nodes
    ∙ ap visible_of (stack-nodes_of stack f ∙ ap (option_map nodes_of) is)
