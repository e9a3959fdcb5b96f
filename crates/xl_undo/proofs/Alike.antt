-- What is found at an id where the layer at some id is changed.
use Rattle.std.proofs.Common.{◌≡◌, ℕ, Bool, true, false, cond, eqb, refl, sym, ap, subst}
use Rattle.spec_document.specs.Forest.{none, leaf, group, Found, nothing, a_leaf, a_group, or_else, find}
use Rattle.spec_document.specs.Changes.{with_leaf}
use Rattle.spec_document.specs.Document.{Nodes, Layer, Group}

-- the same kind of node is found
abbrev pub AreAlike : Found Layer Group → Found Layer Group → Type 0
AreAlike nothing q = q ≡ nothing
AreAlike (a_leaf l) q = (m : Layer) × (q ≡ a_leaf m)
AreAlike (a_group g c) q = (z : Nodes) × (q ≡ a_group g z)

alike_or : (p q x y : Found Layer Group) → AreAlike p x → AreAlike q y → AreAlike (or_else p q) (or_else x y)
alike_or nothing q x y h k = subst (λ z. AreAlike q (or_else z y)) (sym h) k
alike_or (a_leaf l) q x y h k = (h.0, ap (λ z. or_else z y) h.1)
alike_or (a_group g c) q x y h k = (h.0, ap (λ z. or_else z y) h.1)

alike_cond : (test : Bool) (p q x y : Found Layer Group) → AreAlike p x → AreAlike q y → AreAlike (cond test p q) (cond test x y)
alike_cond true p q x y h k = h
alike_cond false p q x y h k = k

pub alike : (id t : ℕ) (change : Layer → Layer) (f : Nodes) → AreAlike (find t f) (find t (with_leaf id change f))
alike id t change none = refl
alike id t change (leaf i l u) =
    alike_cond (eqb t i) (a_leaf l) (find t u) (a_leaf (cond (eqb id i) (change l) l)) (find t (with_leaf id change u))
    (cond (eqb id i) (change l) l, refl) (alike id t change u)
alike id t change (group i g c u) =
    alike_cond (eqb t i) (a_group g c) (or_else (find t c) (find t u)) (a_group g (with_leaf id change c))
    (or_else (find t (with_leaf id change c)) (find t (with_leaf id change u))) (with_leaf id change c, refl)
    (alike_or (find t c) (find t u) (find t (with_leaf id change c)) (find t (with_leaf id change u)) (alike id t change c)
    (alike id t change u))
