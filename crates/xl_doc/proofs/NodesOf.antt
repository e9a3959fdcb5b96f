-- The layers and groups of a tree, found by their ids.
use Rattle.std.proofs.Common.{◌≡◌, ℕ, Bool, true, false, cond, refl, ◌∙◌, ap, subst}
use Rattle.std.specs.Prelude.{Option, Some, None, option_map, ◌==◌}
use Rattle.spec_document.specs.Forest.{Forest, none, leaf, group, Found, nothing, a_leaf, a_group, or_else, find}
use Rattle.spec_document.specs.Forest.{children_of, stack_at}
use Rattle.spec_document.specs.Document as doc
use Rattle.xl_doc.specs.declared.node.Node.{Node}
use Rattle.xl_doc.specs.Nodes.{nodes_of, layer_of, group_of, MarksAgree}

-- what stands at an id, as layers and groups
abbrev seen : Found Node Node → Found doc.Layer doc.Group
seen nothing = nothing
seen (a_leaf n) = a_leaf (layer_of n)
seen (a_group n children) = a_group (group_of n) (nodes_of children)

seen-or_else : (a b : Found Node Node) → or_else (seen a) (seen b) ≡ seen (or_else a b)
seen-or_else nothing b = refl
seen-or_else (a_leaf n) b = refl
seen-or_else (a_group n c) b = refl

seen-cond : (test : Bool) (a b : Found Node Node) → cond test (seen a) (seen b) ≡ seen (cond test a b)
seen-cond true a b = refl
seen-cond false a b = refl

find-nodes_of : (id : ℕ) (f : Forest Node Node) → find id (nodes_of f) ≡ seen (find id f)
find-nodes_of id none = refl
find-nodes_of id (leaf i n under) =
    ap (λ r. cond (id == i) (a_leaf (layer_of n)) r) (find-nodes_of id under) ∙ seen-cond (id == i) (a_leaf n) (find id under)
find-nodes_of id (group i n children under) =
    (λ j. cond (id == i) (a_group (group_of n) (nodes_of children))
    (or_else (find-nodes_of id children j) (find-nodes_of id under j)))
    ∙ (ap (λ r. cond (id == i) (a_group (group_of n) (nodes_of children)) r) (seen-or_else (find id children) (find id under))
    ∙ seen-cond (id == i) (a_group n children) (or_else (find id children) (find id under)))

children_seen : (found : Found Node Node) → children_of (seen found) ≡ option_map nodes_of (children_of found)
children_seen nothing = refl
children_seen (a_leaf n) = refl
children_seen (a_group n children) = refl

stack_cond : (test : Bool) (f : Forest Node Node) (o : Option (Forest Node Node))
    → cond test (Some (nodes_of f)) (option_map nodes_of o) ≡ option_map nodes_of (cond test (Some f) o)
stack_cond true f o = refl
stack_cond false f o = refl

-- the stack of a document is the stack of its tree
pub stack-nodes_of : (stack : ℕ) (f : Forest Node Node) → stack_at stack (nodes_of f) ≡ option_map nodes_of (stack_at stack f)
stack-nodes_of stack f =
    ap (λ o. cond (stack == 0) (Some (nodes_of f)) o) (ap children_of (find-nodes_of stack f) ∙ children_seen (find stack f))
    ∙ stack_cond (stack == 0) f (children_of (find stack f))

-- a found group has marks that agree
abbrev FoundAgrees : Found Node Node → Type 0
FoundAgrees nothing = Unit {0}
FoundAgrees (a_leaf n) = Unit {0}
FoundAgrees (a_group n children) = MarksAgree children

or_agrees : (a b : Found Node Node) → FoundAgrees a → FoundAgrees b → FoundAgrees (or_else a b)
or_agrees nothing b p q = q
or_agrees (a_leaf n) b p q = p
or_agrees (a_group n c) b p q = p

cond_agrees : (test : Bool) (a b : Found Node Node) → FoundAgrees a → FoundAgrees b → FoundAgrees (cond test a b)
cond_agrees true a b p q = p
cond_agrees false a b p q = q

find_agrees : (id : ℕ) (f : Forest Node Node) → MarksAgree f → FoundAgrees (find id f)
find_agrees id none h = tt
find_agrees id (leaf i n under) h = cond_agrees (id == i) (a_leaf n) (find id under) tt (find_agrees id under h.1)
find_agrees id (group i n children under) h =
    cond_agrees (id == i) (a_group n children) (or_else (find id children) (find id under)) h.1.0
    (or_agrees (find id children) (find id under) (find_agrees id children h.1.0) (find_agrees id under h.1.1))

-- a stack has marks that agree
abbrev StackAgrees : Option (Forest Node Node) → Type 0
StackAgrees None = Unit {0}
StackAgrees (Some f) = MarksAgree f

children_agree : (found : Found Node Node) → FoundAgrees found → StackAgrees (children_of found)
children_agree nothing h = tt
children_agree (a_leaf n) h = tt
children_agree (a_group n children) h = h

choice_agrees : (test : Bool) (a b : Option (Forest Node Node)) → StackAgrees a → StackAgrees b → StackAgrees (cond test a b)
choice_agrees true a b p q = p
choice_agrees false a b p q = q

stack_agrees : (stack : ℕ) (f : Forest Node Node) → MarksAgree f → StackAgrees (stack_at stack f)
stack_agrees stack f h =
    choice_agrees (stack == 0) (Some f) (children_of (find stack f)) h (children_agree (find stack f) (find_agrees stack f h))

pub agrees_in : (stack : ℕ) (f s : Forest Node Node) → MarksAgree f → stack_at stack f ≡ Some s → MarksAgree s
agrees_in stack f s h e = let P : Option (Forest Node Node) → Type 0 = StackAgrees in subst P e (stack_agrees stack f h)
