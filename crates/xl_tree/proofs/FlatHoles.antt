-- The entries of a forest with a hole.
use Rattle.std.proofs.Common.{◌≡◌, ℕ, suc, ◌+◌, Bool, true, false, List, [], ◌∷◌, ◌++◌, length, take, drop, refl, sym}
use Rattle.std.proofs.Common.{◌∙◌, ap, arith, length-append}
use Rattle.std.specs.List.{insert}
use Rattle.std.proofs.lemmas.List.{take_at, drop_at, append_assoc, append-nil}
use Rattle.spec_document.specs.Forest.{Forest, none}
use Rattle.spec_document.specs.Holes.{Hole, here, under_leaf, under_group, in_group, plug, depth, passed}
use Rattle.xl_tree.specs.declared.entries.NodeEntry.{NodeEntry}
use Rattle.xl_tree.specs.Flat.{flat}
use Rattle.xl_tree.proofs.Flat.{length-flat}

abbrev pub entry_of : {N : Type 0} → (level id : ℕ) → Bool → N → NodeEntry N
entry_of level id mark node = record { id = id; level = level; group = mark; node = node }

-- the entries before the hole
abbrev pub front : {N : Type 0} → (level : ℕ) → Hole N N → List (NodeEntry N)
front level here = []
front level (under_leaf id w h) = entry_of level id false w ∷ front level h
front level (under_group id w c h) = entry_of level id true w ∷ (flat (suc level) c ++ front level h)
front level (in_group id w h u) = entry_of level id true w ∷ front (suc level) h

-- the entries of what is under the groups round the hole
abbrev pub back : {N : Type 0} → (level : ℕ) → Hole N N → List (NodeEntry N)
back level here = []
back level (under_leaf id w h) = back level h
back level (under_group id w c h) = back level h
back level (in_group id w h u) = back (suc level) h ++ flat level u

module _ {N : Type 0} where
  pub flat-plug : (level : ℕ) (h : Hole N N) (f : Forest N N)
      → flat level (plug h f) ≡ front level h ++ (flat (level + depth h) f ++ back level h)
  flat-plug level here f = ap (λ l. flat l f) (omega arith) ∙ sym (append-nil (flat (level + 0) f))
  flat-plug level (under_leaf id w h) f = ap (λ es. entry_of level id false w ∷ es) (flat-plug level h f)
  flat-plug level (under_group id w c h) f =
      ap (λ es. entry_of level id true w ∷ es)
      (ap (λ es. flat (suc level) c ++ es) (flat-plug level h f)
      ∙ sym (append_assoc (flat (suc level) c) (front level h) (flat (level + depth h) f ++ back level h)))
  flat-plug level (in_group id w h u) f =
      let deeper : suc level + depth h ≡ level + suc (depth h) = omega arith in
      ap (λ es. entry_of level id true w ∷ es)
      (ap (λ es. es ++ flat level u) (flat-plug (suc level) h f)
      ∙ (append_assoc (front (suc level) h) (flat (suc level + depth h) f ++ back (suc level) h) (flat level u)
      ∙ ap (λ es. front (suc level) h ++ es)
      (append_assoc (flat (suc level + depth h) f) (back (suc level) h) (flat level u)
      ∙ ap (λ l. flat l f ++ (back (suc level) h ++ flat level u)) deeper)))

  pub length-front : (level : ℕ) (h : Hole N N) → length (front level h) ≡ passed h
  length-front level here = refl
  length-front level (under_leaf id w h) = omega (arith, length-front level h)
  length-front level (under_group id w c h) =
      omega (arith, length-front level h, length-flat (suc level) c, length-append (flat (suc level) c) (front level h))
  length-front level (in_group id w h u) = omega (arith, length-front (suc level) h)

  -- the entries before the hole, and those from it on
  pub take-plug : (level : ℕ) (h : Hole N N) (f : Forest N N) → take (passed h) (flat level (plug h f)) ≡ front level h
  take-plug level h f =
      ap (take (passed h)) (flat-plug level h f)
      ∙ take_at (front level h) (flat (level + depth h) f ++ back level h) (passed h) (length-front level h)

  pub drop-plug : (level : ℕ) (h : Hole N N) (f : Forest N N)
      → drop (passed h) (flat level (plug h f)) ≡ flat (level + depth h) f ++ back level h
  drop-plug level h f =
      ap (drop (passed h)) (flat-plug level h f)
      ∙ drop_at (front level h) (flat (level + depth h) f ++ back level h) (passed h) (length-front level h)

  -- what is put into an empty hole
  pub insert-plug : (level : ℕ) (h : Hole N N) (e : NodeEntry N) (b : Forest N N) → flat (level + depth h) b ≡ e ∷ []
      → insert (flat level (plug h none)) (passed h) e ≡ flat level (plug h b)
  insert-plug level h e b one =
      (λ i. take-plug level h none i ++ e ∷ drop-plug level h none i)
      ∙ (ap (λ es. front level h ++ (es ++ back level h)) (sym one) ∙ sym (flat-plug level h b))
