-- Where ids stand among entries, and in the forest that these are.
use Rattle.std.proofs.Common.{◌≡◌, ℕ, zero, suc, ◌+◌, ◌<◌, Bool, true, false, cond, eqb, List, [], ◌∷◌, ◌++◌, length}
use Rattle.std.proofs.Common.{get_or, set, take, drop, refl, sym, ◌∙◌, ap, arith, rules}
use Rattle.std.proofs.lemmas.List.{take_more}
use Rattle.std.specs.Prelude.{Option, Some, None, option_map}
use Rattle.spec_document.specs.Forest.{Forest, none, leaf, group}
use Rattle.xl_tree.specs.declared.entries.NodeEntry.{NodeEntry}
use Rattle.xl_tree.specs.Flat.{flat, from_id}
use Rattle.xl_tree.specs.declared.index.Index.{Index}
use Rattle.xl_tree.specs.Index.{IsIndex, place_in}
use Rattle.xl_tree.specs.Places.{first_some, place_of}
use Rattle.xl_tree.proofs.Flat.{length-flat}

mapped_first : (f : ℕ → ℕ) (x y : Option ℕ) → option_map f (first_some x y) ≡ first_some (option_map f x) (option_map f y)
mapped_first f None y = refl
mapped_first f (Some n) y = refl

mapped_more : (n : ℕ) (x : Option ℕ) → option_map (λ k. 1 + k) (option_map (λ k. n + k) x) ≡ option_map (λ k. 1 + n + k) x
mapped_more n None = refl
mapped_more n (Some k) = ap Some (omega arith)

mapped_none : (x : Option ℕ) → option_map (λ k. 0 + k) x ≡ x
mapped_none None = refl
mapped_none (Some k) = ap Some (omega arith)

module _ {N : Type 0} where
  place_in-append : (id : ℕ) (xs ys : List (NodeEntry N))
      → place_in id (xs ++ ys) ≡ first_some (place_in id xs) (option_map (λ k. length xs + k) (place_in id ys))
  place_in-append id [] ys = sym (mapped_none (place_in id ys))
  place_in-append id (e ∷ xs) ys =
      by_case (eqb id e.id) (place_in-append id xs ys) ∙ counted where
        counted : first_some (place_in id (e ∷ xs)) (option_map (λ k. 1 + length xs + k) (place_in id ys))
            ≡ first_some (place_in id (e ∷ xs)) (option_map (λ k. length (e ∷ xs) + k) (place_in id ys))
        counted = let more : 1 + length xs ≡ length (e ∷ xs) = omega arith in
            ap (λ n. first_some (place_in id (e ∷ xs)) (option_map (λ k. n + k) (place_in id ys))) more

        by_case : (b : Bool) → place_in id (xs ++ ys)
            ≡ first_some (place_in id xs) (option_map (λ k. length xs + k) (place_in id ys))
            → cond b (Some 0) (option_map (λ k. 1 + k) (place_in id (xs ++ ys)))
            ≡ first_some (cond b (Some 0) (option_map (λ k. 1 + k) (place_in id xs)))
            (option_map (λ k. 1 + length xs + k) (place_in id ys))
        by_case true rest = refl
        by_case false rest =
            ap (option_map (λ k. 1 + k)) rest
            ∙ (mapped_first (λ k. 1 + k) (place_in id xs) _
            ∙ ap (first_some (option_map (λ k. 1 + k) (place_in id xs))) (mapped_more (length xs) (place_in id ys)))

  -- among the entries of a forest, a node stands where it stands in the forest
  place_in-flat : (id level : ℕ) (f : Forest N N) → place_in id (flat level f) ≡ place_of id f
  place_in-flat id level none = refl
  place_in-flat id level (leaf i w u) = ap (λ x. cond (eqb id i) (Some 0) (option_map (λ k. 1 + k) x)) (place_in-flat id level u)
  place_in-flat id level (group i w c u) =
      ap (cond (eqb id i) (Some 0))
      (ap (option_map (λ k. 1 + k)) (place_in-append id (flat (suc level) c) (flat level u))
      ∙ (mapped_first (λ k. 1 + k) (place_in id (flat (suc level) c)) _
      ∙ ((λ j. first_some (option_map (λ k. 1 + k) (place_in-flat id (suc level) c j))
      (mapped_more (length (flat (suc level) c)) (place_in id (flat level u)) j))
      ∙ (λ j. first_some (option_map (λ k. 1 + k) (place_of id c))
      (option_map (λ k. 1 + length-flat (suc level) c j + k) (place_in-flat id level u j))))))

  pub place_is : (id : ℕ) (es : List (NodeEntry N)) (f : Forest N N) → es ≡ flat 0 f → place_in id es ≡ place_of id f
  place_is id es f flat_is = ap (place_in id) flat_is ∙ place_in-flat id 0 f

  -- the entries from a place on are those from the id on that stands there
  pub from_place_is : (id at : ℕ) (es : List (NodeEntry N)) → place_in id es ≡ Some at → from_id id es ≡ drop at es
  from_place_is id at [] there = cc
  from_place_is id at (e ∷ es) there = by_case (λ k is. from_place_is id k es is) (eqb id e.id) there where
    behind : ((k : ℕ) → place_in id es ≡ Some k → from_id id es ≡ drop k es) → (n : Option ℕ) → place_in id es ≡ n
        → option_map (λ k. 1 + k) n ≡ Some at → from_id id es ≡ drop at (e ∷ es)
    behind rest None is there = cc
    behind rest (Some k) is there =
        let at_is : 1 + k ≡ at = cc in let more : suc k ≡ at = omega (arith, at_is) in rest k is ∙ ap (λ m. drop m (e ∷ es)) more

    by_case : ((k : ℕ) → place_in id es ≡ Some k → from_id id es ≡ drop k es) → (b : Bool)
        → cond b (Some 0) (option_map (λ k. 1 + k) (place_in id es)) ≡ Some at → cond b (e ∷ es) (from_id id es) ≡ drop at (e ∷ es)
    by_case rest true there = let at_is : 0 ≡ at = cc in ap (λ m. drop m (e ∷ es)) at_is
    by_case rest false there = behind rest (place_in id es) refl there

  pub from_nowhere : (id : ℕ) (es : List (NodeEntry N)) → place_in id es ≡ None → from_id id es ≡ []
  from_nowhere id [] there = refl
  from_nowhere id (e ∷ es) there = by_case (λ is. from_nowhere id es is) (eqb id e.id) there where
    behind : (place_in id es ≡ None → from_id id es ≡ []) → (n : Option ℕ) → place_in id es ≡ n → option_map (λ k. 1 + k) n ≡ None
        → from_id id es ≡ []
    behind rest None is there = rest is
    behind rest (Some k) is there = cc

    by_case : (place_in id es ≡ None → from_id id es ≡ []) → (b : Bool)
        → cond b (Some 0) (option_map (λ k. 1 + k) (place_in id es)) ≡ None → cond b (e ∷ es) (from_id id es) ≡ []
    by_case rest true there = cc
    by_case rest false there = behind rest (place_in id es) refl there

  pub place_within : (id at : ℕ) (es : List (NodeEntry N)) → place_in id es ≡ Some at → at < length es
  place_within id at [] there = cc
  place_within id at (e ∷ es) there = by_case (λ k is. place_within id k es is) (eqb id e.id) there where
    behind : ((k : ℕ) → place_in id es ≡ Some k → k < length es) → (n : Option ℕ) → place_in id es ≡ n
        → option_map (λ k. 1 + k) n ≡ Some at → at < suc (length es)
    behind rest None is there = cc
    behind rest (Some k) is there = let at_is : 1 + k ≡ at = cc in omega (arith, rest k is, at_is)

    by_case : ((k : ℕ) → place_in id es ≡ Some k → k < length es) → (b : Bool)
        → cond b (Some 0) (option_map (λ k. 1 + k) (place_in id es)) ≡ Some at → at < suc (length es)
    by_case rest true there = let at_is : 0 ≡ at = cc in omega (arith, at_is)
    by_case rest false there = behind rest (place_in id es) refl there

  -- one entry more has a place where its id has none yet
  pub last_place : (id i : ℕ) (es : List (NodeEntry N)) (e : NodeEntry N) → i < length es → e ≡ get_or es i e
      → place_in id (take (i + 1) es) ≡ first_some (place_in id (take i es)) (cond (eqb id e.id) (Some i) None)
  last_place id i es e h is =
      ap (place_in id) (take_more es i e h)
      ∙ (place_in-append id (take i es) (get_or es i e ∷ [])
      ∙ ap (first_some (place_in id (take i es))) ((λ j. option_map (λ k. length_take i es h j + k) (place_in id (sym is j ∷ [])))
      ∙ last (eqb id e.id))) where
        length_take : (n : ℕ) (xs : List (NodeEntry N)) → n < length xs → length (take n xs) ≡ n
        length_take n xs k = search (rules)

        last : (b : Bool) → option_map (λ k. i + k) (cond b (Some 0) (option_map (λ k. 1 + k) None)) ≡ cond b (Some i) None
        last true = ap Some (omega arith)
        last false = refl

  -- an index of entries is one of the same entries
  pub same_index : (index : Index) (xs es : List (NodeEntry N)) → IsIndex index xs → xs ≡ es → IsIndex index es
  same_index index xs es told same id = told id ∙ ap (place_in id) same

  -- what is written into an entry leaves its place
  pub place_in-set : (id at : ℕ) (es : List (NodeEntry N)) (e d : NodeEntry N) → d ≡ get_or es at d → e.id ≡ d.id
      → place_in id (set es at e) ≡ place_in id es
  place_in-set id at [] e d there same = refl
  place_in-set id zero (o ∷ es) e d there same =
      ap (λ i. cond (eqb id i) (Some 0) (option_map (λ k. 1 + k) (place_in id es))) (same ∙ ap (λ x. x.id) there)
  place_in-set id (suc at) (o ∷ es) e d there same =
      ap (λ x. cond (eqb id o.id) (Some 0) (option_map (λ k. 1 + k) x)) (place_in-set id at es e d there same)
