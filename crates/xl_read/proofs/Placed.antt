-- What a tree of nodes stands for when a branch is put into it.
use Rattle.std.proofs.Common.{◌≡◌, ℕ, zero, suc, ◌+◌, List, [], ◌∷◌, refl, ◌∙◌, ap, subst}
use Rattle.std.specs.Prelude.{Option, Some, None, option_map}
use Rattle.spec_document.specs.Forest.{Forest, none, leaf, group, size}
use Rattle.spec_document.specs.Changes.{above, put_last}
use Rattle.xl_doc.specs.declared.node.Node.{Node}
use Rattle.xl_doc.specs.Nodes.{layer_of, group_of, nodes_of, MarksAgree}

pub size-nodes_of : (forest : Forest Node Node) → size (nodes_of forest) ≡ size forest
size-nodes_of none = refl
size-nodes_of (leaf id n under) = ap (λ k. 1 + k) (size-nodes_of under)
size-nodes_of (group id n children under) = λ i. 1 + size-nodes_of children i + size-nodes_of under i

pub nodes_of-above : (a b : Forest Node Node) → above (nodes_of a) (nodes_of b) ≡ nodes_of (above a b)
nodes_of-above none b = refl
nodes_of-above (leaf id n under) b = ap (leaf id (layer_of n)) (nodes_of-above under b)
nodes_of-above (group id n children under) b = ap (group id (group_of n) (nodes_of children)) (nodes_of-above under b)

-- a change before or after
mapped : {A B : Type 0} (f : A → B) (g : A → A) (h : B → B) (o : Option A) → ((x : A) → h (f x) ≡ f (g x))
    → option_map h (option_map f o) ≡ option_map f (option_map g o)
mapped f g h None e = refl
mapped f g h (Some x) e = ap Some (e x)

-- the branch goes to the same place
pub nodes_of-put_last : (path : List ℕ) (branch forest : Forest Node Node)
    → put_last path (nodes_of branch) (nodes_of forest) ≡ option_map nodes_of (put_last path branch forest)
nodes_of-put_last [] branch forest = ap Some (nodes_of-above forest branch)
nodes_of-put_last (place ∷ path) branch none = refl
nodes_of-put_last (zero ∷ path) branch (leaf id n under) = refl
nodes_of-put_last (zero ∷ path) branch (group id n children under) =
    ap (option_map (λ x. group id (group_of n) x (nodes_of under))) (nodes_of-put_last path branch children)
    ∙ mapped nodes_of (λ x. group id n x under) (λ x. group id (group_of n) x (nodes_of under)) (put_last path branch children)
    (λ _. refl)
nodes_of-put_last (suc place ∷ path) branch (leaf id n under) =
    ap (option_map (leaf id (layer_of n))) (nodes_of-put_last (place ∷ path) branch under)
    ∙ mapped nodes_of (leaf id n) (leaf id (layer_of n)) (put_last (place ∷ path) branch under) (λ _. refl)
nodes_of-put_last (suc place ∷ path) branch (group id n children under) =
    ap (option_map (group id (group_of n) (nodes_of children))) (nodes_of-put_last (place ∷ path) branch under)
    ∙ mapped nodes_of (group id n children) (group id (group_of n) (nodes_of children)) (put_last (place ∷ path) branch under)
    (λ _. refl)

marks-above : (a b : Forest Node Node) → MarksAgree a → MarksAgree b → MarksAgree (above a b)
marks-above none b h k = k
marks-above (leaf id n under) b h k = (h.0, marks-above under b h.1 k)
marks-above (group id n children under) b h k = (h.0, (h.1.0, marks-above under b h.1.1 k))

-- an option that was mapped to something
origin : {A B : Type 0} (f : A → B) (o : Option A) (y : B) → option_map f o ≡ Some y → (x : A) × (o ≡ Some x) × (f x ≡ y)
origin f None y e = cc
origin f (Some x) y e = (x, refl, cc)

-- the marks still agree
pub marks-put_last : (path : List ℕ) (branch old new : Forest Node Node) → put_last path branch old ≡ Some new → MarksAgree branch
    → MarksAgree old → MarksAgree new
marks-put_last [] branch old new e h k =
    let is : above old branch ≡ new = cc in
    let P : Forest Node Node → Type 0 = MarksAgree in
    subst P is (marks-above old branch k h)
marks-put_last (place ∷ path) branch none new e h k = cc
marks-put_last (zero ∷ path) branch (leaf id n under) new e h k = cc
marks-put_last (zero ∷ path) branch (group id n children under) new e h k =
    let m = origin (λ x. group id n x under) (put_last path branch children) new e in
    let P : Forest Node Node → Type 0 = MarksAgree in
    subst P m.2 (k.0, (marks-put_last path branch children m.0 m.1 h k.1.0, k.1.1))
marks-put_last (suc place ∷ path) branch (leaf id n under) new e h k =
    let m = origin (leaf id n) (put_last (place ∷ path) branch under) new e in
    let P : Forest Node Node → Type 0 = MarksAgree in
    subst P m.2 (k.0, marks-put_last (place ∷ path) branch under m.0 m.1 h k.1)
marks-put_last (suc place ∷ path) branch (group id n children under) new e h k =
    let m = origin (group id n children) (put_last (place ∷ path) branch under) new e in
    let P : Forest Node Node → Type 0 = MarksAgree in
    subst P m.2 (k.0, (k.1.0, marks-put_last (place ∷ path) branch under m.0 m.1 h k.1.1))
