-- A forest as a tree of numbers, by which proofs tell forests apart. It says nothing of what a forest means.
use Rattle.std.specs.Prelude.{◌≡◌, ℕ, refl}
use Rattle.std.proofs.Common.{ap}
use Rattle.std.proofs.lemmas.Bool.{eqb-false}
use Rattle.std.specs.Coded.{Coded}
use base.Stored.{Gv, gnil, gnum, gcons}
use Rattle.spec_document.specs.Forest.{Forest, none, leaf, group}

abbrev head : Gv → Gv
head gnil = gnil
head (gnum n) = gnil
head (gcons a b) = a

abbrev tail : Gv → Gv
tail gnil = gnil
tail (gnum n) = gnil
tail (gcons a b) = b

abbrev num : Gv → ℕ
num gnil = 0
num (gnum n) = n
num (gcons a b) = 0

module _ {L G : Type 0} (l : L → Gv) (g : G → Gv) where
  pub code_of : Forest L G → Gv
  code_of none = gcons (gnum 0) gnil
  code_of (leaf id what under) = gcons (gnum 1) (gcons (gnum id) (gcons (l what) (code_of under)))
  code_of (group id what children under) =
      gcons (gnum 2) (gcons (gnum id) (gcons (g what) (gcons (code_of children) (code_of under))))

abbrev tag_of : Gv → ℕ
tag_of c = num (head c)

module _ {L G : Type 0} (l : Coded L) (g : Coded G) where
  pub code_of-inj : (x y : Forest L G) → code_of l.code g.code x ≡ code_of l.code g.code y → x ≡ y
  unfolding code_of
  code_of-inj none none p = refl
  code_of-inj (leaf i a u) (leaf j b v) p =
      λ k. leaf (ap (λ c. num (head (tail c))) p k) (l.inj a b (ap (λ c. head (tail (tail c))) p) k)
      (code_of-inj u v (ap (λ c. tail (tail (tail c))) p) k)
  code_of-inj (group i a c u) (group j b d v) p =
      λ k. group (ap (λ c. num (head (tail c))) p k) (g.inj a b (ap (λ c. head (tail (tail c))) p) k)
      (code_of-inj c d (ap (λ c. head (tail (tail (tail c)))) p) k)
      (code_of-inj u v (ap (λ c. tail (tail (tail (tail c)))) p) k)
  code_of-inj none (leaf j b v) p = absurd (eqb-false 0 1 refl (ap tag_of p))
  code_of-inj none (group j b d v) p = absurd (eqb-false 0 2 refl (ap tag_of p))
  code_of-inj (leaf i a u) none p = absurd (eqb-false 1 0 refl (ap tag_of p))
  code_of-inj (leaf i a u) (group j b d v) p = absurd (eqb-false 1 2 refl (ap tag_of p))
  code_of-inj (group i a c u) none p = absurd (eqb-false 2 0 refl (ap tag_of p))
  code_of-inj (group i a c u) (leaf j b v) p = absurd (eqb-false 2 1 refl (ap tag_of p))

  abbrev pub coded_forest : Coded (Forest L G)
  coded_forest = record { code = code_of l.code g.code; inj = code_of-inj }
