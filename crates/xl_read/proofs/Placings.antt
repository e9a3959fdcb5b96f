-- A node that is put into a tree is put into the document.
use Rattle.std.proofs.Common.{◌≡◌, ℕ, ◌+◌, ◌<◌, ◌≤◌, Bool, true, false, List, [], ◌∷◌, ◌++◌, refl, sym, ◌∙◌, ap, subst, arith}
use Rattle.std.specs.Prelude.{Option, Some, None, option_map, is_some, IsSome}
use Rattle.std.specs.List.{AllByRecursion}
use Rattle.std.proofs.lemmas.Bool.{ne_eqb}
use Rattle.spec_document.specs.Forest.{Forest, none, ids, size}
use Rattle.spec_document.specs.Changes.{put_last}
use Rattle.spec_document.proofs.Distinct.{IsNot, all-left, all-right, nothing_from_ids}
use Rattle.spec_document.proofs.Runs.{all-join}
use Rattle.spec_file.proofs.ForestGrows.{size-put_last, ids-put_last}
use Rattle.xl_tree.specs.Ids.{IsNew}
use Rattle.xl_tree.specs.Places.{alone}
use Rattle.xl_tree.proofs.PutLast.{size-alone}
use Rattle.xl_doc.specs.declared.node.Node.{Node}
use Rattle.xl_doc.specs.declared.node.Body.{Body}
use Rattle.xl_doc.specs.Nodes.{nodes_of, is_group_body, IsLeaf, IsGroup, MarksAgree}
use Rattle.xl_doc.specs.declared.node.Body.TheVariants as body
use Rattle.xl_read.proofs.Placed.{nodes_of-put_last}

is_some-map : {A B : Type 0} (f : A → B) (o : Option A) → is_some (option_map f o) ≡ is_some o
is_some-map f None = refl
is_some-map f (Some x) = refl

-- a path leads where it leads in the tree
pub leads_same : (path : List ℕ) (tree : Forest Node Node)
    → is_some (put_last path none (nodes_of tree)) ≡ is_some (put_last path none tree)
leads_same path tree = ap is_some (nodes_of-put_last path none tree) ∙ is_some-map nodes_of (put_last path none tree)

pub leads_back : (path : List ℕ) (tree : Forest Node Node) → IsSome (put_last path none (nodes_of tree))
    → IsSome (put_last path none tree)
leads_back path tree h = sym (leads_same path tree) ∙ h

-- the mark of a new node agrees
pub marks_alone : (id : ℕ) (node : Node) → MarksAgree (alone (is_group_body node.body) id node)
marks_alone id node = by node.body refl
  where
    by : (b : Body) → node.body ≡ b → MarksAgree (alone (is_group_body b) id node)
    by (body.Leaf sheet) e = let P : Body → Type 0 = IsLeaf in (subst P (sym e) tt, tt)
    by body.Group e = let P : Body → Type 0 = IsGroup in (subst P (sym e) tt, (tt, tt))

pub placed_same : (path : List ℕ) (mark : Bool) (id other : ℕ) (node : Node) (old new : Forest Node Node) → id ≡ other
    → put_last path (alone mark id node) old ≡ Some new
    → put_last path (nodes_of (alone mark other node)) (nodes_of old) ≡ Some (nodes_of new)
placed_same path mark id other node old new same e =
    nodes_of-put_last path (alone mark other node) old
    ∙ (ap (λ n. option_map nodes_of (put_last path (alone mark n node) old)) (sym same)
    ∙ ap (option_map nodes_of) e)

beyond : (id n : ℕ) (xs : List ℕ) → n < id → AllByRecursion (λ i. i ≤ n) xs → AllByRecursion (IsNot id) xs
beyond id n [] past h = tt
beyond id n (x ∷ xs) past h = (ne_eqb id x (λ e. omega (arith, past, h.0, e)), beyond id n xs past h.1)

up_to : (m n : ℕ) (xs : List ℕ) → m ≤ n → AllByRecursion (λ i. i ≤ m) xs → AllByRecursion (λ i. i ≤ n) xs
up_to m n [] more h = tt
up_to m n (x ∷ xs) more h = (omega (arith, more, h.0), up_to m n xs more h.1)

-- the next number is no node's
pub next_is_new : (id : ℕ) (tree : Forest Node Node) → id ≡ size tree + 1 → AllByRecursion (λ i. i ≤ size tree) (ids tree)
    → IsNew id tree
next_is_new id tree is counted = record {
  positive = omega (arith, is);
  nowhere = nothing_from_ids id tree (beyond id (size tree) (ids tree) (omega (arith, is)) counted);
}

-- the ids with the next one are at most the number of nodes
pub counted_more : (path : List ℕ) (mark : Bool) (id : ℕ) (node : Node) (old new : Forest Node Node)
    → put_last path (alone mark id node) old ≡ Some new → id ≡ size old + 1
    → AllByRecursion (λ i. i ≤ size old) (ids old) → AllByRecursion (λ i. i ≤ size new) (ids new)
counted_more path mark id node old new e is counted =
    let branch : Forest Node Node = alone mark id node in
    let size_is : size new ≡ size old + 1 = size-put_last path branch old new e
    ∙ ap (λ n. size old + n) (size-alone id mark node) in
    let r = ids-put_last path branch old new e in
    let P : ℕ → Type 0 = λ i. i ≤ size new in
    let Q : List ℕ → Type 0 = λ xs. AllByRecursion P xs in
    let rest : AllByRecursion P (r.0 ++ r.1) =
    subst Q r.2 (up_to (size old) (size new) (ids old) (omega (arith, size_is)) counted) in
    subst Q (sym r.3)
    (all-join P r.0 (ids branch ++ r.1) (all-left P r.0 r.1 rest)
    (all-join P (ids branch) r.1 (one mark (omega (arith, is, size_is))) (all-right P r.0 r.1 rest))) where
      one : (m : Bool) → id ≤ size new → AllByRecursion (λ i. i ≤ size new) (ids (alone m id node))
      one true h = (h, tt)
      one false h = (h, tt)
