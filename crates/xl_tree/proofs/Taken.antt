-- A stack taken apart at its first entry.
use Rattle.std.proofs.Common.{◌≡◌, ℕ, suc, ◌+◌, ◌≤◌, true, false, List, ◌∷◌, ◌++◌, length, take, drop, sym, subst, ◌∙◌, ap, arith}
use Rattle.spec_document.specs.Forest.{Forest, none, leaf, group, size, levels}
use Rattle.xl_tree.specs.declared.entries.NodeEntry.{NodeEntry}
use Rattle.xl_tree.specs.Flat.{flat, below, forest_of}
use Rattle.xl_tree.specs.Kept.{AreSiblings}
use Rattle.xl_tree.proofs.Flat.{length-flat, take-flat_group, drop-flat_group, forest_of_is, flat_is, size-forest_of}
use Rattle.spec_document.specs.declared.TheConstants.{MAX_NODES}

module _ {N : Type 0} where
  -- siblings, by their forest
  pub siblings : (level : ℕ) (es : List (NodeEntry N)) (f : Forest N N) → es ≡ flat level f → size f ≤ MAX_NODES → level + levels f ≤ 8
      → AreSiblings level es
  siblings level es f e few low = record {
    flat_is = flat_is level es f e;
    few =
        omega (arith, few, ap length e, length-flat level f);
    low = omega (arith, low, ap levels (forest_of_is level es f e));
  }

  -- what follows a leaf
  pub record AfterLeaf (level : ℕ) (f : Forest N N) (e : NodeEntry N) (rest : List (NodeEntry N)) : Type 0 where
    pub forest : f ≡ leaf e.id e.node (forest_of rest)
    pub under : AreSiblings level rest

  -- what follows a group
  pub record AfterGroup (level : ℕ) (f : Forest N N) (e : NodeEntry N) (rest : List (NodeEntry N)) : Type 0 where
    pub forest : f ≡ group e.id e.node (forest_of (take (below e.level rest) rest)) (forest_of (drop (below e.level rest) rest))
    pub level_is : e.level ≡ level
    pub deep : level + 1 ≤ 8
    pub children : AreSiblings (level + 1) (take (below e.level rest) rest)
    pub under : AreSiblings level (drop (below e.level rest) rest)

  pub after_leaf : (level : ℕ) (f : Forest N N) (e : NodeEntry N) (rest : List (NodeEntry N)) → e ∷ rest ≡ flat level f → size f ≤ MAX_NODES
      → level + levels f ≤ 8 → e.group ≡ false → AfterLeaf level f e rest
  after_leaf level none e rest is few low g = cc
  after_leaf level (leaf id w u) e rest is few low g =
      let first : e ≡ record { id = id; level = level; group = false; node = w } = cc in
      let next : rest ≡ flat level u = cc in
      let u_is = forest_of_is level rest u next in
      record {
        forest = λ k. leaf (ap (λ x. x.id) (sym first) k) (ap (λ x. x.node) (sym first) k) (sym u_is k);
        under = siblings level rest u next (omega (arith, few)) (omega (arith, low));
      }
  after_leaf level (group id w c u) e rest is few low g =
      let first : e ≡ record { id = id; level = level; group = true; node = w } = cc in
      let yes : true ≡ false = sym (ap (λ x. x.group) first) ∙ g in
      cc

  pub after_group : (level : ℕ) (f : Forest N N) (e : NodeEntry N) (rest : List (NodeEntry N)) → e ∷ rest ≡ flat level f
      → size f ≤ MAX_NODES → level + levels f ≤ 8 → e.group ≡ true → AfterGroup level f e rest
  after_group level none e rest is few low g = cc
  after_group level (leaf id w u) e rest is few low g =
      let first : e ≡ record { id = id; level = level; group = false; node = w } = cc in
      let no : false ≡ true = sym (ap (λ x. x.group) first) ∙ g in
      cc
  after_group level (group id w c u) e rest is few low g =
      let first : e ≡ record { id = id; level = level; group = true; node = w } = cc in
      let next : rest ≡ flat (suc level) c ++ flat level u = cc in
      let at_level : e.level ≡ level = ap (λ x. x.level) first in
      let taken : take (below e.level rest) rest ≡ flat (suc level) c =
      (λ k. take (below (at_level k) (next k)) (next k)) ∙ take-flat_group level c u in
      let left : drop (below e.level rest) rest ≡ flat level u =
      (λ k. drop (below (at_level k) (next k)) (next k)) ∙ drop-flat_group level c u in
      let suc_is : suc level ≡ level + 1 = omega arith in
      let taken_1 : take (below e.level rest) rest ≡ flat (level + 1) c = taken ∙ ap (λ l. flat l c) suc_is in
      let c_is = forest_of_is (suc level) _ c taken in
      let u_is = forest_of_is level _ u left in
      record {
        forest = λ k. group (ap (λ x. x.id) (sym first) k) (ap (λ x. x.node) (sym first) k) (sym c_is k) (sym u_is k);
        level_is = at_level;
        deep = omega (arith, low);
        children = siblings (level + 1) _ c taken_1 (omega (arith, few)) (omega (arith, low));
        under = siblings level _ u left (omega (arith, few)) (omega (arith, low));
      }

  -- the parts of a stack whose first entry is a group
  pub record Parted (level : ℕ) (f : Forest N N) (e : NodeEntry N) (inside after : List (NodeEntry N)) : Type 0 where
    pub forest : group e.id e.node (forest_of inside) (forest_of after) ≡ f
    pub children : AreSiblings (e.level + 1) inside
    pub under : AreSiblings level after

  pub parted : (level : ℕ) (es : List (NodeEntry N)) (f : Forest N N) (e : NodeEntry N) (rest : List (NodeEntry N)) (k : ℕ)
      (inside after : List (NodeEntry N)) → AreSiblings level es → forest_of es ≡ f → es ≡ e ∷ rest → e.group ≡ true
      → k ≡ below e.level rest → inside ≡ take k rest → after ≡ drop k rest → Parted level f e inside after
  parted level es f e rest k inside after s is split g k_is inside_is after_is =
      let a = after_group level (forest_of es) e rest (sym split
      ∙ s.flat_is) (omega (arith, s.few, size-forest_of level es s.flat_is)) s.low g in
      let first : inside ≡ take (below e.level rest) rest = inside_is ∙ ap (λ n. take n rest) k_is in
      let second : after ≡ drop (below e.level rest) rest = after_is ∙ ap (λ n. drop n rest) k_is in
      let children_at : AreSiblings (e.level + 1) (take (below e.level rest) rest) = let P : ℕ
      → Type 0 = λ l. AreSiblings (l + 1) (take (below e.level rest) rest) in subst P (sym a.level_is) a.children in
      let P : List (NodeEntry N) → Type 0 = λ x. AreSiblings (e.level + 1) x in
      let Q : List (NodeEntry N) → Type 0 = λ x. AreSiblings level x in
      record {
        forest = (λ i. group e.id e.node (forest_of (first i)) (forest_of (second i))) ∙ (sym a.forest ∙ is);
        children = subst P (sym first) children_at;
        under = subst Q (sym second) a.under;
      }
