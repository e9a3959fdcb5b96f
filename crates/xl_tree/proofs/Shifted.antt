-- Entries that were moved to another level.
use Rattle.std.proofs.Common.{◌≡◌, ℕ, zero, suc, ◌+◌, ◌-◌, ◌<◌, ◌≤◌, Bool, true, false, List, [], ◌∷◌, ◌++◌, length}
use Rattle.std.proofs.Common.{get_or, set, map, take, drop, refl, sym, ◌∙◌, ap, arith}
use Rattle.std.proofs.lemmas.List.{map-append, get_or_at, set_at, drop_more, map_more, length-map, length-take-le}
use Rattle.std.proofs.lemmas.List.{append_assoc, get_or-take}
use Rattle.spec_document.specs.Forest.{Forest, none, leaf, group, levels}
use Rattle.xl_tree.specs.declared.entries.NodeEntry.{NodeEntry}
use Rattle.xl_tree.specs.Flat.{flat}
use Rattle.xl_tree.specs.Moves.{shifted, AreShallow}
use Rattle.xl_tree.proofs.FlatHoles.{entry_of}

module _ {N : Type 0} where
  -- one entry more is moved
  pub shift_more : (from to i : ℕ) (old xs : List (NodeEntry N)) (e new : NodeEntry N) → i < length old
      → xs ≡ map (shifted from to) (take i old) ++ drop i old → e ≡ get_or xs i e → new ≡ shifted from to e
      → set xs i new ≡ map (shifted from to) (take (i + 1) old) ++ drop (i + 1) old
  shift_more from to i old xs e new h so_far e_is new_is =
      let f : NodeEntry N → NodeEntry N = shifted from to in
      let p : List (NodeEntry N) = map f (take i old) in
      let n : length p ≡ i = length-map (take i old) f ∙ length-take-le i old (omega (arith, h)) in
      let y : NodeEntry N = get_or old i e in
      let split : xs ≡ p ++ y ∷ drop (i + 1) old = so_far ∙ ap (λ x. p ++ x) (drop_more old i e h) in
      let y_is : e ≡ y = e_is ∙ (ap (λ x. get_or x i e) split ∙ get_or_at p y (drop (i + 1) old) e i n) in
      (λ j. set (split j) i (new_is j))
      ∙ (set_at p y (drop (i + 1) old) (f e) i n
      ∙ (ap (λ x. p ++ f x ∷ drop (i + 1) old) y_is
      ∙ (sym (append_assoc p (f y ∷ []) (drop (i + 1) old))
      ∙ ap (λ x. x ++ drop (i + 1) old) (sym (map_more f old i e h)))))

  pub shallow_at : (es : List (NodeEntry N)) (i : ℕ) (d : NodeEntry N) → AreShallow es → i < length es → (get_or es i d).level ≤ 8
  shallow_at [] i d s h = absurd (omega (arith, h))
  shallow_at (e ∷ es) zero d s h = s.0
  shallow_at (e ∷ es) (suc i) d s h = shallow_at es i d s.1 (omega (arith, h))

  pub shallow-append : (xs ys : List (NodeEntry N)) → AreShallow xs → AreShallow ys → AreShallow (xs ++ ys)
  shallow-append [] ys a b = b
  shallow-append (x ∷ xs) ys a b = (a.0, shallow-append xs ys a.1 b)

  pub shallow-flat : (level : ℕ) (f : Forest N N) → level + levels f ≤ 8 → AreShallow (flat level f)
  shallow-flat level none h = tt
  shallow-flat level (leaf id w u) h = (omega (arith, h), shallow-flat level u (omega (arith, h)))
  shallow-flat level (group id w c u) h = (
    omega (arith, h),
    shallow-append (flat (suc level) c) (flat level u) (shallow-flat (suc level) c (omega (arith, h)))
        (shallow-flat level u (omega (arith, h))),
  )

  -- the entries of a forest that moves from one level to another
  shift_entry : (from to d id : ℕ) (mark : Bool) (w : N)
      → shifted from to (entry_of (from + d) id mark w) ≡ entry_of (to + d) id mark w
  shift_entry from to d id mark w = let l : (from + d - from) + to ≡ to + d = omega arith in ap (λ k. entry_of k id mark w) l

  pub map-shifted_flat : (from to d : ℕ) (f : Forest N N) → map (shifted from to) (flat (from + d) f) ≡ flat (to + d) f
  map-shifted_flat from to d none = refl
  map-shifted_flat from to d (leaf id w u) = λ j. shift_entry from to d id false w j ∷ map-shifted_flat from to d u j
  map-shifted_flat from to d (group id w c u) =
      let a : suc (from + d) ≡ from + suc d = omega arith in
      let b : to + suc d ≡ suc (to + d) = omega arith in
      let inner : map (shifted from to) (flat (suc (from + d)) c) ≡ flat (suc (to + d)) c =
      ap (λ l. map (shifted from to) (flat l c)) a ∙ (map-shifted_flat from to (suc d) c ∙ ap (λ l. flat l c) b) in
      let both : map (shifted from to) (flat (suc (from + d)) c ++ flat (from + d) u) ≡ flat (suc (to + d)) c ++ flat (to + d) u =
      map-append (shifted from to) (flat (suc (from + d)) c) (flat (from + d) u)
      ∙ (λ j. inner j ++ map-shifted_flat from to d u j) in
      λ j. shift_entry from to d id true w j ∷ both j

  pub map-down : (level : ℕ) (f : Forest N N) → map (shifted level 0) (flat level f) ≡ flat 0 f
  map-down level f =
      let z : level ≡ level + 0 = omega arith in
      ap (λ l. map (shifted level 0) (flat l f)) z ∙ map-shifted_flat level 0 0 f

  pub map-up : (level : ℕ) (f : Forest N N) → map (shifted 0 level) (flat 0 f) ≡ flat level f
  map-up level f =
      let z : level + 0 ≡ level = omega arith in
      map-shifted_flat 0 level 0 f ∙ ap (λ l. flat l f) z

  -- the entry that is next is not deep
  pub shift_fits : (from to i count : ℕ) (old xs : List (NodeEntry N)) (e : NodeEntry N) → i < count → count ≤ length old
      → AreShallow (take count old) → xs ≡ map (shifted from to) (take i old) ++ drop i old → e ≡ get_or xs i e → e.level ≤ 8
  shift_fits from to i count old xs e h within shallow so_far e_is =
      let p : List (NodeEntry N) = map (shifted from to) (take i old) in
      let n : length p ≡ i = length-map (take i old) (shifted from to) ∙ length-take-le i old (omega (arith, h, within)) in
      let split : xs ≡ p ++ get_or old i e ∷ drop (i + 1) old = so_far
      ∙ ap (λ x. p ++ x) (drop_more old i e (omega (arith, h, within))) in
      let y_is : e ≡ get_or (take count old) i e =
      e_is ∙ (ap (λ x. get_or x i e) split
      ∙ (get_or_at p (get_or old i e) (drop (i + 1) old) e i n ∙ sym (get_or-take count old i e h))) in
      omega (
        arith,
        ap (λ x. x.level) y_is,
        shallow_at (take count old) i e shallow (omega (arith, h, length-take-le count old within)),
      )
