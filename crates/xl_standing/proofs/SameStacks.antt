-- A document in which a layer is changed has the stacks that it had.
use Rattle.std.proofs.Common.{◌≡◌, ℕ, Bool, true, false, cond, not, ◌&&◌, ◌||◌, ◌==◌, List, [], ◌∷◌, refl, sym, ◌∙◌, ap, eq-eqb}
use Rattle.std.specs.Prelude.{Some, is_some}
use Rattle.spec_document.specs.Forest.{Found, nothing, a_leaf, a_group, find, children_of}
use Rattle.spec_document.specs.Changes.{with_leaf}
use Rattle.spec_document.specs.Document.{Document, Layer, Group}
use Rattle.spec_edit.specs.Effect.{change_leaf}
use Rattle.spec_damage.specs.Damage.{Pair}
use Rattle.spec_history.specs.Machine.{has_stack}
use Rattle.spec_world.proofs.Stacks.{has_id, came-listed}
use Rattle.spec_standing.specs.Change.{came_to, change_between}
use Rattle.xl_undo.proofs.Alike.{AreAlike, alike}

same_children : (p q : Found Layer Group) → AreAlike p q → is_some (children_of q) ≡ is_some (children_of p)
same_children nothing q h = ap (λ z. is_some (children_of z)) h
same_children (a_leaf l) q h = ap (λ z. is_some (children_of z)) h.1
same_children (a_group g c) q h = ap (λ z. is_some (children_of z)) h.1

same_stack : (d : Document) (id : ℕ) (change : Layer → Layer) (stack : ℕ)
    → has_stack (change_leaf d id change) stack ≡ has_stack d stack
same_stack d id change stack = by_test (stack == 0) where
  by_test : (test : Bool)
      → is_some (cond test (Some (with_leaf id change d.nodes)) (children_of (find stack (with_leaf id change d.nodes))))
      ≡ is_some (cond test (Some d.nodes) (children_of (find stack d.nodes)))
  by_test true = refl
  by_test false = same_children (find stack d.nodes) (find stack (with_leaf id change d.nodes)) (alike id stack change d.nodes)

empty : (xs : List ℕ) → ((k : ℕ) → has_id k xs ≡ false) → xs ≡ []
empty [] h = refl
empty (x ∷ xs) h = let wrong : true ≡ false = sym (ap (λ b. b || has_id x xs) (eq-eqb x x refl)) ∙ h x in cc

none_come : (old new : Document) → ((stack : ℕ) → has_stack new stack ≡ has_stack old stack) → came_to old new ≡ []
none_come old new same = empty (came_to old new) (λ k. came-listed old new k
    ∙ (ap (λ b. not (has_stack old k) && b) (same k) ∙ never (has_stack old k))) where
      never : (b : Bool) → (not b && b) ≡ false
      never true = refl
      never false = refl

-- so none comes and none goes
pub none_between : (d new : Document) (id : ℕ) (change : Layer → Layer) (damage : List Pair) → new ≡ change_leaf d id change
    → change_between d new damage
    ≡ record { width = d.width; height = d.height; damage = damage; came = []; went = [] }
none_between d new id change damage is =
    ap (λ n. change_between d n damage) is
    ∙ (λ i. record {
      width = d.width;
      height = d.height;
      damage = damage;
      came = none_come d (change_leaf d id change) (same_stack d id change) i;
      went = none_come (change_leaf d id change) d (λ k. sym (same_stack d id change k)) i;
    })
