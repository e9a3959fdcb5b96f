-- Fills of two layers, in either order.
use Rattle.std.proofs.Common.{◌≡◌, ℕ, Bool, true, false, cond, eqb, List, refl, sym, ◌∙◌, ap}
use Rattle.std.specs.Prelude.{◌≢◌, slice_index}
use Rattle.std.proofs.lemmas.Bool.{eqb-true}
use Rattle.spec_document.specs.Forest.{Forest, none, leaf, group}
use Rattle.spec_document.specs.Changes.{with_leaf}
use Rattle.spec_document.specs.declared.Rect.{Rect}
use Rattle.spec_document.specs.Document.{Document, Layer, Nodes}
use Rattle.spec_edit.specs.Edit.{fill}
use Rattle.spec_edit.specs.Refusal.{refusal}
use Rattle.spec_edit.specs.Effect.{effect, paint}
use Rattle.spec_merged.proofs.Leaves.{all_leaves}
use Rattle.spec_merged.proofs.Painted.{with_nodes, paint-nodes, refusal-like, IsLike, like_itself, like_painted}

leaf_twice : {L : Type 0} (a b : ℕ) (f g : L → L) → a ≢ b → (i : ℕ) (w : L)
    → cond (eqb b i) (g (cond (eqb a i) (f w) w)) (cond (eqb a i) (f w) w)
    ≡ cond (eqb a i) (f (cond (eqb b i) (g w) w)) (cond (eqb b i) (g w) w)
leaf_twice a b f g other i w = go (eqb a i) (eqb b i) refl refl where
  go : (p q : Bool) → eqb a i ≡ p → eqb b i ≡ q
      → cond q (g (cond p (f w) w)) (cond p (f w) w) ≡ cond p (f (cond q (g w) w)) (cond q (g w) w)
  go true true p q = absurd (other (eqb-true a i p ∙ sym (eqb-true b i q)))
  go true false p q = refl
  go false true p q = refl
  go false false p q = refl

module _ {L G : Type 0} (a b : ℕ) (f g : L → L) (other : a ≢ b) where
  with_leaf_twice : (n : Forest L G) → with_leaf b g (with_leaf a f n) ≡ with_leaf a f (with_leaf b g n)
  with_leaf_twice none = refl
  with_leaf_twice (leaf i w u) = λ k. leaf i (leaf_twice a b f g other i w k) (with_leaf_twice u k)
  with_leaf_twice (group i w c u) = λ k. group i w (with_leaf_twice c k) (with_leaf_twice u k)

with_leaf_is : {L G : Type 0} (id : ℕ) (change : L → L) (n : Forest L G)
    → with_leaf id change n ≡ all_leaves (λ i w. cond (eqb id i) (change w) w) n
with_leaf_is id change none = refl
with_leaf_is id change (leaf i w u) = λ k. leaf i (cond (eqb id i) (change w) w) (with_leaf_is id change u k)
with_leaf_is id change (group i w c u) = λ k. group i w (with_leaf_is id change c k) (with_leaf_is id change u k)

pub commute : (d : Document) (next other_next : ℕ) (table other_table : List ℕ) (a b : ℕ) (at other : Rect) (pixel colour : List ℕ)
    → a ≢ b
    → effect (effect d next table (fill a at pixel)) other_next other_table (fill b other colour)
    ≡ effect (effect d other_next other_table (fill b other colour)) next table (fill a at pixel)
commute d next other_next table other_table a b at other pixel colour apart =
    let f : Layer → Layer = paint d at (λ x y c. slice_index pixel c) in
    let g : Layer → Layer = paint d other (λ x y c. slice_index colour c) in
    (λ k. with_nodes d (with_leaf b (λ l. paint-nodes d (with_leaf a f d.nodes) other (λ x y c. slice_index colour c) l k)
    (with_leaf a f d.nodes)))
    ∙ ap (with_nodes d) (with_leaf_twice a b f g apart d.nodes)
    ∙ (λ k. with_nodes d (with_leaf a (λ l. sym (paint-nodes d (with_leaf b g d.nodes) at (λ x y c. slice_index pixel c) l) k)
    (with_leaf b g d.nodes)))

pub no_other_refusal : (d : Document) (next : ℕ) (table : List ℕ) (a b : ℕ) (at other : Rect) (pixel colour : List ℕ)
    → refusal (effect d next table (fill a at pixel)) (fill b other colour) ≡ refusal d (fill b other colour)
no_other_refusal d next table a b at other pixel colour =
    let f : Layer → Layer = paint d at (λ x y c. slice_index pixel c) in
    ap (λ (n : Nodes). refusal (with_nodes d n) (fill b other colour)) (with_leaf_is a f d.nodes)
    ∙ refusal-like d (λ i l. cond (eqb a i) (f l) l) (λ i l. like (eqb a i) l) b other colour where
      like : (t : Bool) (l : Layer) → IsLike (cond t (paint d at (λ x y c. slice_index pixel c) l) l) l
      like true l = like_painted d at (λ x y c. slice_index pixel c) l
      like false l = like_itself l
