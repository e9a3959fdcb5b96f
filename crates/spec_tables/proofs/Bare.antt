-- The nodes of a document without the bytes of their layers' pixels.
use Rattle.std.proofs.Common.{◌≡◌, ℕ, zero, suc, ◌+◌, max, Bool, true, false, cond, eqb, [], ◌∷◌, ◌++◌, refl, sym, ◌∙◌, ap}
use Rattle.std.specs.Prelude.{Some, option_map}
use Rattle.spec_document.specs.Forest.{none, leaf, group, Found, nothing, a_leaf, a_group, or_else, find, children_of}
use Rattle.spec_document.specs.Forest.{size, count, levels, first_of, ancestors, stack_at}
use Rattle.spec_document.specs.Changes.{above, put_at, with_children, put_into, without, branch_of, with_leaf, with_group}
use Rattle.spec_document.specs.Document.{Document, Nodes, Layer, Group, nodes_area, plane_area, mask_area}

abbrev pub bare_layer : Layer → Layer
bare_layer l = record l { plane = record { width = l.plane.width; height = l.plane.height; bpp = l.plane.bpp; bytes = [] } }

abbrev pub bare_nodes : Nodes → Nodes
bare_nodes none = none
bare_nodes (leaf i l u) = leaf i (bare_layer l) (bare_nodes u)
bare_nodes (group i g c u) = group i g (bare_nodes c) (bare_nodes u)

abbrev pub bare : Document → Document
bare d = record d { nodes = bare_nodes d.nodes }

pub bare_twice : (t : Nodes) → bare_nodes (bare_nodes t) ≡ bare_nodes t
bare_twice none = refl
bare_twice (leaf i l u) = ap (leaf i (bare_layer l)) (bare_twice u)
bare_twice (group i g c u) = λ j. group i g (bare_twice c j) (bare_twice u j)

either : {A B : Type 0} → (f : A → B) (test : Bool) (x y : A) → f (cond test x y) ≡ cond test (f x) (f y)
either f true x y = refl
either f false x y = refl

-- ---- nodes that come, go and move

pub bare-without : (id : ℕ) (t : Nodes) → bare_nodes (without id t) ≡ without id (bare_nodes t)
bare-without id none = refl
bare-without id (leaf i l u) =
    either bare_nodes (eqb id i) u (leaf i l (without id u))
    ∙ ap (λ x. cond (eqb id i) (bare_nodes u) (leaf i (bare_layer l) x)) (bare-without id u)
bare-without id (group i g c u) =
    either bare_nodes (eqb id i) u (group i g (without id c) (without id u))
    ∙ (λ j. cond (eqb id i) (bare_nodes u) (group i g (bare-without id c j) (bare-without id u j)))

bare-above : (a b : Nodes) → bare_nodes (above a b) ≡ above (bare_nodes a) (bare_nodes b)
bare-above none b = refl
bare-above (leaf i l u) b = ap (leaf i (bare_layer l)) (bare-above u b)
bare-above (group i g c u) b = ap (group i g (bare_nodes c)) (bare-above u b)

pub bare-branch_of : (id : ℕ) (t : Nodes) → bare_nodes (branch_of id t) ≡ branch_of id (bare_nodes t)
bare-branch_of id none = refl
bare-branch_of id (leaf i l u) =
    either bare_nodes (eqb id i) (leaf i l none) (branch_of id u)
    ∙ ap (λ x. cond (eqb id i) (leaf i (bare_layer l) none) x) (bare-branch_of id u)
bare-branch_of id (group i g c u) =
    either bare_nodes (eqb id i) (group i g c none) (above (branch_of id c) (branch_of id u))
    ∙ ap (λ x. cond (eqb id i) (group i g (bare_nodes c) none) x)
    (bare-above (branch_of id c) (branch_of id u) ∙ (λ j. above (bare-branch_of id c j) (bare-branch_of id u j)))

bare-put_at : (b : Nodes) (place : ℕ) (t : Nodes) → bare_nodes (put_at b place t) ≡ put_at (bare_nodes b) place (bare_nodes t)
bare-put_at b zero t = bare-above b t
bare-put_at b (suc place) none = bare-above b none
bare-put_at b (suc place) (leaf i l u) = ap (leaf i (bare_layer l)) (bare-put_at b place u)
bare-put_at b (suc place) (group i g c u) = ap (group i g (bare_nodes c)) (bare-put_at b place u)

bare-with_children : (id place : ℕ) (b t : Nodes)
    → bare_nodes (with_children id (put_at b place) t) ≡ with_children id (put_at (bare_nodes b) place) (bare_nodes t)
bare-with_children id place b none = refl
bare-with_children id place b (leaf i l u) = ap (leaf i (bare_layer l)) (bare-with_children id place b u)
bare-with_children id place b (group i g c u) = λ j.
    group i g
    ((either bare_nodes (eqb id i) (put_at b place c) (with_children id (put_at b place) c)
    ∙ (λ k. cond (eqb id i) (bare-put_at b place c k) (bare-with_children id place b c k))) j)
    (bare-with_children id place b u j)

pub bare-put_into : (stack place : ℕ) (b t : Nodes)
    → bare_nodes (put_into stack place b t) ≡ put_into stack place (bare_nodes b) (bare_nodes t)
bare-put_into stack place b t =
    either bare_nodes (eqb stack 0) (put_at b place t) (with_children stack (put_at b place) t)
    ∙ (λ k. cond (eqb stack 0) (bare-put_at b place t k) (bare-with_children stack place b t k))

-- ---- nodes that are changed

leaf_cond : (test : Bool) (g h : Layer → Layer) (l : Layer) → bare_layer (g l) ≡ bare_layer (h (bare_layer l))
    → bare_layer (cond test (g l) l) ≡ bare_layer (cond test (h (bare_layer l)) (bare_layer l))
leaf_cond true g h l same = same
leaf_cond false g h l same = refl

pub bare-with_leaf : (id : ℕ) (g h : Layer → Layer) → ((l : Layer) → bare_layer (g l) ≡ bare_layer (h (bare_layer l))) → (t : Nodes)
    → bare_nodes (with_leaf id g t) ≡ bare_nodes (with_leaf id h (bare_nodes t))
bare-with_leaf id g h same none = refl
bare-with_leaf id g h same (leaf i l u) = λ j. leaf i (leaf_cond (eqb id i) g h l (same l) j) (bare-with_leaf id g h same u j)
bare-with_leaf id g h same (group i w c u) = λ j. group i w (bare-with_leaf id g h same c j) (bare-with_leaf id g h same u j)

pub bare-with_group : (id : ℕ) (g : Group → Group) (t : Nodes) → bare_nodes (with_group id g t) ≡ with_group id g (bare_nodes t)
bare-with_group id g none = refl
bare-with_group id g (leaf i l u) = ap (leaf i (bare_layer l)) (bare-with_group id g u)
bare-with_group id g (group i w c u) = λ j. group i (cond (eqb id i) (g w) w) (bare-with_group id g c j) (bare-with_group id g u j)

-- ---- what is found

abbrev pub bare_found : Found Layer Group → Found Layer Group
bare_found nothing = nothing
bare_found (a_leaf l) = a_leaf (bare_layer l)
bare_found (a_group g c) = a_group g (bare_nodes c)

bare-or_else : (a b : Found Layer Group) → or_else (bare_found a) (bare_found b) ≡ bare_found (or_else a b)
bare-or_else nothing b = refl
bare-or_else (a_leaf l) b = refl
bare-or_else (a_group g c) b = refl

pub find-bare : (id : ℕ) (t : Nodes) → find id (bare_nodes t) ≡ bare_found (find id t)
find-bare id none = refl
find-bare id (leaf i l u) =
    ap (λ r. cond (eqb id i) (a_leaf (bare_layer l)) r) (find-bare id u) ∙ sym (either bare_found (eqb id i) (a_leaf l) (find id u))
find-bare id (group i g c u) =
    (λ j. cond (eqb id i) (a_group g (bare_nodes c)) (or_else (find-bare id c j) (find-bare id u j)))
    ∙ (ap (λ r. cond (eqb id i) (a_group g (bare_nodes c)) r) (bare-or_else (find id c) (find id u))
    ∙ sym (either bare_found (eqb id i) (a_group g c) (or_else (find id c) (find id u))))

-- ---- numbers

pub size-bare : (t : Nodes) → size (bare_nodes t) ≡ size t
size-bare none = refl
size-bare (leaf i l u) = ap (λ k. 1 + k) (size-bare u)
size-bare (group i g c u) = λ j. 1 + size-bare c j + size-bare u j

count-bare : (t : Nodes) → count (bare_nodes t) ≡ count t
count-bare none = refl
count-bare (leaf i l u) = ap (λ k. 1 + k) (count-bare u)
count-bare (group i g c u) = ap (λ k. 1 + k) (count-bare u)

pub levels-bare : (t : Nodes) → levels (bare_nodes t) ≡ levels t
levels-bare none = refl
levels-bare (leaf i l u) = ap (max 1) (levels-bare u)
levels-bare (group i g c u) = λ j. max (1 + levels-bare c j) (levels-bare u j)

pub ancestors-bare : (id : ℕ) (t : Nodes) → ancestors id (bare_nodes t) ≡ ancestors id t
ancestors-bare id none = refl
ancestors-bare id (leaf i l u) = ap (cond (eqb id i) (Some [])) (ancestors-bare id u)
ancestors-bare id (group i g c u) = λ j.
    cond (eqb id i) (Some []) (first_of (option_map (λ above. above ++ i ∷ []) (ancestors-bare id c j)) (ancestors-bare id u j))

pub nodes_area-bare : (canvas : ℕ) (t : Nodes) → nodes_area canvas (bare_nodes t) ≡ nodes_area canvas t
nodes_area-bare canvas none = refl
nodes_area-bare canvas (leaf i l u) = ap (λ k. plane_area l.plane + mask_area l.mask + k) (nodes_area-bare canvas u)
nodes_area-bare canvas (group i g c u) = λ j. canvas + (nodes_area-bare canvas c j + nodes_area-bare canvas u j)

count_found : (f : Found Layer Group) → option_map count (children_of (bare_found f)) ≡ option_map count (children_of f)
count_found nothing = refl
count_found (a_leaf l) = refl
count_found (a_group g c) = ap Some (count-bare c)

-- how many children a stack has
pub children-bare : (stack : ℕ) (t : Nodes) → option_map count (stack_at stack (bare_nodes t)) ≡ option_map count (stack_at stack t)
children-bare stack t = step (eqb stack 0) where
  step : (test : Bool) → option_map count (cond test (Some (bare_nodes t)) (children_of (find stack (bare_nodes t))))
      ≡ option_map count (cond test (Some t) (children_of (find stack t)))
  step true = ap Some (count-bare t)
  step false = ap (λ f. option_map count (children_of f)) (find-bare stack t) ∙ count_found (find stack t)
