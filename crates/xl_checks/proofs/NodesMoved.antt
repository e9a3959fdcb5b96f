-- The layers and groups of a tree whose nodes come, go and move.
use Rattle.std.proofs.Common.{◌≡◌, ℕ, zero, suc, ◌+◌, max, Bool, true, false, cond, eqb, [], ◌∷◌, ◌++◌, refl, ◌∙◌, ap}
use Rattle.std.specs.Prelude.{Option, Some, None, option_map}
use Rattle.spec_document.specs.Forest.{Forest, none, leaf, group, size, count, levels, first_of, ancestors, stack_at}
use Rattle.spec_document.specs.Changes.{above, put_at, with_children, put_into, without}
use Rattle.xl_doc.specs.declared.node.Node.{Node}
use Rattle.xl_doc.specs.Nodes.{nodes_of, layer_of, group_of, MarksAgree}
use Rattle.xl_doc.proofs.NodesOf.{stack-nodes_of}

either : {A B : Type 0} → (f : A → B) (test : Bool) (x y : A) → f (cond test x y) ≡ cond test (f x) (f y)
either f true x y = refl
either f false x y = refl

pub nodes-without : (id : ℕ) (t : Forest Node Node) → nodes_of (without id t) ≡ without id (nodes_of t)
nodes-without id none = refl
nodes-without id (leaf i n u) =
    either nodes_of (eqb id i) u (leaf i n (without id u))
    ∙ ap (λ x. cond (eqb id i) (nodes_of u) (leaf i (layer_of n) x)) (nodes-without id u)
nodes-without id (group i n c u) =
    either nodes_of (eqb id i) u (group i n (without id c) (without id u))
    ∙ (λ j. cond (eqb id i) (nodes_of u) (group i (group_of n) (nodes-without id c j) (nodes-without id u j)))

pub nodes-above : (a b : Forest Node Node) → nodes_of (above a b) ≡ above (nodes_of a) (nodes_of b)
nodes-above none b = refl
nodes-above (leaf i n u) b = ap (leaf i (layer_of n)) (nodes-above u b)
nodes-above (group i n c u) b = ap (group i (group_of n) (nodes_of c)) (nodes-above u b)

nodes-put_at : (b : Forest Node Node) (place : ℕ) (t : Forest Node Node)
    → nodes_of (put_at b place t) ≡ put_at (nodes_of b) place (nodes_of t)
nodes-put_at b zero t = nodes-above b t
nodes-put_at b (suc place) none = nodes-above b none
nodes-put_at b (suc place) (leaf i n u) = ap (leaf i (layer_of n)) (nodes-put_at b place u)
nodes-put_at b (suc place) (group i n c u) = ap (group i (group_of n) (nodes_of c)) (nodes-put_at b place u)

nodes-with_children : (id place : ℕ) (b t : Forest Node Node)
    → nodes_of (with_children id (put_at b place) t) ≡ with_children id (put_at (nodes_of b) place) (nodes_of t)
nodes-with_children id place b none = refl
nodes-with_children id place b (leaf i n u) = ap (leaf i (layer_of n)) (nodes-with_children id place b u)
nodes-with_children id place b (group i n c u) = λ j.
    group i (group_of n)
    ((either nodes_of (eqb id i) (put_at b place c) (with_children id (put_at b place) c)
    ∙ (λ k. cond (eqb id i) (nodes-put_at b place c k) (nodes-with_children id place b c k))) j)
    (nodes-with_children id place b u j)

pub nodes-put_into : (stack place : ℕ) (b t : Forest Node Node)
    → nodes_of (put_into stack place b t) ≡ put_into stack place (nodes_of b) (nodes_of t)
nodes-put_into stack place b t =
    either nodes_of (eqb stack 0) (put_at b place t) (with_children stack (put_at b place) t)
    ∙ (λ k. cond (eqb stack 0) (nodes-put_at b place t k) (nodes-with_children stack place b t k))

-- ---- marks

marks_cond : (test : Bool) (x y : Forest Node Node) → MarksAgree x → MarksAgree y → MarksAgree (cond test x y)
marks_cond true x y p q = p
marks_cond false x y p q = q

pub marks-without : (id : ℕ) (t : Forest Node Node) → MarksAgree t → MarksAgree (without id t)
marks-without id none m = tt
marks-without id (leaf i n u) m = marks_cond (eqb id i) u (leaf i n (without id u)) m.1 (m.0, marks-without id u m.1)
marks-without id (group i n c u) m =
    marks_cond (eqb id i) u (group i n (without id c) (without id u)) m.1.1 (
      m.0,
      (marks-without id c m.1.0, marks-without id u m.1.1),
    )

pub marks-above : (a b : Forest Node Node) → MarksAgree a → MarksAgree b → MarksAgree (above a b)
marks-above none b p q = q
marks-above (leaf i n u) b p q = (p.0, marks-above u b p.1 q)
marks-above (group i n c u) b p q = (p.0, (p.1.0, marks-above u b p.1.1 q))

marks-put_at : (b : Forest Node Node) (place : ℕ) (t : Forest Node Node) → MarksAgree b → MarksAgree t
    → MarksAgree (put_at b place t)
marks-put_at b zero t p q = marks-above b t p q
marks-put_at b (suc place) none p q = marks-above b none p tt
marks-put_at b (suc place) (leaf i n u) p q = (q.0, marks-put_at b place u p q.1)
marks-put_at b (suc place) (group i n c u) p q = (q.0, (q.1.0, marks-put_at b place u p q.1.1))

marks-with_children : (id place : ℕ) (b t : Forest Node Node) → MarksAgree b → MarksAgree t
    → MarksAgree (with_children id (put_at b place) t)
marks-with_children id place b none p q = tt
marks-with_children id place b (leaf i n u) p q = (q.0, marks-with_children id place b u p q.1)
marks-with_children id place b (group i n c u) p q = (
  q.0,
  (
    marks_cond (eqb id i) (put_at b place c) (with_children id (put_at b place) c) (marks-put_at b place c p q.1.0)
        (marks-with_children id place b c p q.1.0),
    marks-with_children id place b u p q.1.1,
  ),
)

pub marks-put_into : (stack place : ℕ) (b t : Forest Node Node) → MarksAgree b → MarksAgree t
    → MarksAgree (put_into stack place b t)
marks-put_into stack place b t p q =
    marks_cond (eqb stack 0) (put_at b place t) (with_children stack (put_at b place) t) (marks-put_at b place t p q)
    (marks-with_children stack place b t p q)

-- ---- numbers

pub size-nodes_of : (t : Forest Node Node) → size (nodes_of t) ≡ size t
size-nodes_of none = refl
size-nodes_of (leaf i n u) = ap (λ k. 1 + k) (size-nodes_of u)
size-nodes_of (group i n c u) = λ j. 1 + size-nodes_of c j + size-nodes_of u j

pub count-nodes_of : (t : Forest Node Node) → count (nodes_of t) ≡ count t
count-nodes_of none = refl
count-nodes_of (leaf i n u) = ap (λ k. 1 + k) (count-nodes_of u)
count-nodes_of (group i n c u) = ap (λ k. 1 + k) (count-nodes_of u)

pub levels-nodes_of : (t : Forest Node Node) → levels (nodes_of t) ≡ levels t
levels-nodes_of none = refl
levels-nodes_of (leaf i n u) = ap (max 1) (levels-nodes_of u)
levels-nodes_of (group i n c u) = λ j. max (1 + levels-nodes_of c j) (levels-nodes_of u j)

pub ancestors-nodes_of : (id : ℕ) (t : Forest Node Node) → ancestors id (nodes_of t) ≡ ancestors id t
ancestors-nodes_of id none = refl
ancestors-nodes_of id (leaf i n u) = ap (cond (eqb id i) (Some [])) (ancestors-nodes_of id u)
ancestors-nodes_of id (group i n c u) = λ j.
    cond (eqb id i) (Some []) (first_of (option_map (λ above. above ++ i ∷ []) (ancestors-nodes_of id c j))
    (ancestors-nodes_of id u j))

count_option : (o : Option (Forest Node Node)) → option_map count (option_map nodes_of o) ≡ option_map count o
count_option None = refl
count_option (Some t) = ap Some (count-nodes_of t)

-- how many children a stack has
pub children-nodes_of : (stack : ℕ) (t : Forest Node Node)
    → option_map count (stack_at stack (nodes_of t)) ≡ option_map count (stack_at stack t)
children-nodes_of stack t = ap (option_map count) (stack-nodes_of stack t) ∙ count_option (stack_at stack t)
