-- Counting the entries that are deeper than a level, one by one.
use Rattle.std.proofs.Common.{◌≡◌, ℕ, ◌+◌, ◌<◌, ◌≤◌, false, cond, nat_lt, List, ◌∷◌, length, get_or, drop, sym, ◌∙◌, ap, arith}
use Rattle.std.proofs.lemmas.Bool.{lt-ltb}
use Rattle.std.proofs.lemmas.Bool.Decides.{nat_tests}
use Rattle.std.proofs.lemmas.List.{drop_more, drop_all}
use Rattle.xl_tree.specs.declared.entries.NodeEntry.{NodeEntry}
use Rattle.xl_tree.specs.Flat.{below}

module _ {N : Type 0} where
  below_here : (level : ℕ) (e : NodeEntry N) (es : List (NodeEntry N)) → level < e.level → below level (e ∷ es) ≡ 1 + below level es
  below_here level e es h = ap (λ b. cond b (1 + below level es) 0) (lt-ltb level e.level h)

  below_not_here : (level : ℕ) (e : NodeEntry N) (es : List (NodeEntry N)) → e.level ≤ level → below level (e ∷ es) ≡ 0
  below_not_here level e es h =
      let no : nat_lt level e.level ≡ false = grind (arith, nat_tests) in
      ap (λ b. cond b (1 + below level es) 0) no

  -- one more is deeper
  pub below_more : (level : ℕ) (es : List (NodeEntry N)) (i : ℕ) (e : NodeEntry N) → i < length es → e ≡ get_or es i e → level < e.level
      → below level (drop i es) ≡ 1 + below level (drop (i + 1) es)
  below_more level es i e h at deep =
      ap (below level) (drop_more es i e h ∙ ap (λ x. x ∷ drop (i + 1) es) (sym at)) ∙ below_here level e (drop (i + 1) es) deep

  -- the next is not deeper
  pub below_stop : (level : ℕ) (es : List (NodeEntry N)) (i : ℕ) (e : NodeEntry N) → i < length es → e ≡ get_or es i e → e.level ≤ level
      → below level (drop i es) ≡ 0
  below_stop level es i e h at deep =
      ap (below level) (drop_more es i e h ∙ ap (λ x. x ∷ drop (i + 1) es) (sym at)) ∙ below_not_here level e (drop (i + 1) es) deep

  -- there is no next
  pub below_end : (level : ℕ) (es : List (NodeEntry N)) (i : ℕ) → length es ≤ i → below level (drop i es) ≡ 0
  below_end level es i h = ap (below level) (drop_all i es h)
