-- A trail, whose oldest group stands first, beside the groups that can be undone or redone, whose next one stands first.
use Rattle.std.proofs.Common.{◌≡◌, ℕ, zero, suc, ◌+◌, ◌-◌, ◌≤◌, inl, inr, List, [], ◌∷◌, ◌++◌, length, take, drop}
use Rattle.std.proofs.Common.{refl, sym, ◌∙◌, ap, arith, length-append}
use Rattle.std.specs.Prelude.{reverse, Some, option_map, slice_get}
use Rattle.std.proofs.lemmas.List.{take_at, take_all, take-append-drop, length-drop, reverse-append, reverse-reverse, length-reverse}
use Rattle.std.proofs.lemmas.Bool.{cases_lt}
use Rattle.spec_document.specs.Document.{Document}
use Rattle.spec_history.specs.Machine.{push}
use Rattle.spec_history.specs.declared.TheConstants.{MAX_UNDO}
use Rattle.spec_history.proofs.Causes.{slice_get-last}
use Rattle.xl_undo.specs.Trail.{newest}
use Rattle.spec_standing.specs.Now.{top_of}
use Rattle.spec_standing.specs.Steps.{Step, Lead}

-- ---- the last of a list, from the other end

reverse-drop : {X : Type 0} (k m : ℕ) (xs : List X) → k + m ≡ length xs → reverse (drop k xs) ≡ take m (reverse xs)
reverse-drop k m xs e =
    let back = reverse (drop k xs) in
    let front = reverse (take k xs) in
    let long : length back ≡ m = omega (arith, e, length-reverse (drop k xs), length-drop k xs) in
    sym (take_at back front m long)
    ∙ ap (take m) (sym (reverse-append (take k xs) (drop k xs)) ∙ ap reverse (take-append-drop k xs))

pub reverse-newest : {X : Type 0} (n : ℕ) (xs : List X) → reverse (newest n xs) ≡ take n (reverse xs)
reverse-newest n xs = elim (cases_lt (length xs) n) as (λ _. reverse (newest n xs) ≡ take n (reverse xs)) [
  | inl short ↦
      let none : length xs - n ≡ 0 = omega (arith, short) in
      ap (λ k. reverse (drop k xs)) none ∙ sym (take_all n (reverse xs) (omega (arith, short, length-reverse xs)))
  | inr long ↦ reverse-drop (length xs - n) n xs (omega (arith, long))
]

-- a group comes last, and so on top
pub reverse-pushed : {X : Type 0} (xs : List X) (x : X) → reverse (newest MAX_UNDO (xs ++ x ∷ [])) ≡ push x (reverse xs)
reverse-pushed xs x = reverse-newest MAX_UNDO (xs ++ x ∷ []) ∙ ap (take MAX_UNDO) (reverse-append xs (x ∷ []))

pub newest-few : {X : Type 0} (n : ℕ) (xs : List X) → (length (newest n xs) ≤ n) × (length (newest n xs) ≤ length xs)
newest-few n xs = (omega (arith, length-drop (length xs - n) xs), omega (arith, length-drop (length xs - n) xs))

-- ---- the top

reverse-cons : {X : Type 0} (x : X) (xs : List X) → reverse (x ∷ xs) ≡ reverse xs ++ x ∷ []
reverse-cons x xs = reverse-append (x ∷ []) xs

last-pushed : {X : Type 0} (xs : List X) (x : X) → slice_get (xs ++ x ∷ []) (length (xs ++ x ∷ []) - 1) ≡ Some x
last-pushed xs x =
    let n : length (xs ++ x ∷ []) - 1 ≡ length xs = omega (arith, length-append xs (x ∷ [])) in
    ap (slice_get (xs ++ x ∷ [])) n ∙ slice_get-last xs x

top-reversed : (ys : List (ℕ × Step)) → option_map (λ p. p.0) (slice_get (reverse ys) (length (reverse ys) - 1)) ≡ top_of ys
top-reversed [] = refl
top-reversed (y ∷ ys) =
    ap (λ xs. option_map (λ p. p.0) (slice_get xs (length xs - 1))) (reverse-cons y ys)
    ∙ ap (option_map (λ p. p.0)) (last-pushed (reverse ys) y)

pub top-is : (xs : List (ℕ × Step)) → option_map (λ p. p.0) (slice_get xs (length xs - 1)) ≡ top_of (reverse xs)
top-is xs =
    ap (λ zs. option_map (λ p. p.0) (slice_get zs (length zs - 1))) (sym (reverse-reverse xs)) ∙ top-reversed (reverse xs)

-- the last one leaves, and so the top
pub reverse-popped : {X : Type 0} (xs rest : List X) (x : X) → xs ≡ rest ++ x ∷ [] → reverse xs ≡ x ∷ reverse rest
reverse-popped xs rest x e = ap reverse e ∙ reverse-append rest (x ∷ [])

-- ---- steps

pub lead-take : (d : Document) (n : ℕ) (ss : List (ℕ × Step)) → Lead d ss → Lead d (take n ss)
lead-take d zero ss lead = tt
lead-take d (suc n) [] lead = tt
lead-take d (suc n) (s ∷ ss) lead = (lead.0, lead-take s.1.to n ss lead.1)
