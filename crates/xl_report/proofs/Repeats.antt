-- What is drawn some times, and then once more.
use Rattle.std.proofs.Common.{◌≡◌, ℕ, zero, suc, ◌+◌, List, [], ◌∷◌, ◌++◌, refl, sym, subst, ap, ◌∙◌, append_assoc}
use Rattle.std.proofs.Common.{append-nil, arith}
use Rattle.std.specs.Prelude.{flat_map}
use Rattle.std.proofs.lemmas.Grind.{flat_map-append}
use Rattle.spec_document.specs.Rect.{count_from}
use Rattle.spec_generated.specs.Draws.{Drawn, Draws, times, for_each}
use Rattle.xl_report.specs.Drawing.{IsDrawn, AddsDrawn}

-- what is drawn next comes last
abbrev pub one_more : {A : Type 0} → Drawn (List A) → Draws A → Drawn (List A)
one_more d draws = let e = draws d.state in record { what = d.what ++ e.what ∷ []; state = e.state }

-- and what is drawn first comes first
abbrev pub one_first : {A : Type 0} → A → Drawn (List A) → Drawn (List A)
one_first a d = record { what = a ∷ d.what; state = d.state }

-- the same again, by what is equal to it
pub same_drawn : {A : Type 0} (draws : Draws A) (old from new : ℕ) (what other : A) → from ≡ old → other ≡ what
    → IsDrawn draws old what new → IsDrawn draws from other new
same_drawn draws old from new what other from_is is drawn =
    ap draws from_is ∙ (drawn ∙ ap (λ a. record { what = a; state = new }) (sym is))

pub same_added : {A : Type 0} (draws : Draws (List A)) (old new : ℕ) (before after other : List A) → other ≡ after
    → AddsDrawn draws old before after new → AddsDrawn draws old before other new
same_added draws old new before after other is added = (is ∙ added.0, added.1)

module _ {A : Type 0} (draws : Draws A) where
  pub times_more : (n s : ℕ) → times (suc n) draws s ≡ one_more (times n draws s) draws
  times_more zero s = refl
  times_more (suc n) s = ap (one_first (draws s).what) (times_more n (draws s).state)

  pub times_step : (n m s t u : ℕ) (before : List A) (a : A) → m ≡ n + 1 → IsDrawn (times n draws) s before t → IsDrawn draws t a u
      → IsDrawn (times m draws) s (before ++ a ∷ []) u
  times_step n m s t u before a next first more =
      let next_is : m ≡ suc n = omega (arith, next) in
      let one : Drawn A → Drawn (List A) = λ e. record { what = before ++ e.what ∷ []; state = e.state } in
      ap (λ k. times k draws s) next_is ∙ (times_more n s ∙ (ap (λ d. one_more d draws) first ∙ ap one more))

  pub times_all : (n m s t : ℕ) (what : List A) → n ≡ m → IsDrawn (times n draws) s what t → IsDrawn (times m draws) s what t
  times_all n m s t what same drawn = ap (λ k. times k draws s) (sym same) ∙ drawn

  pub adds_step : (n m s t u : ℕ) (before now : List A) (a : A) → m ≡ n + 1 → AddsDrawn (times n draws) s before now t
      → IsDrawn draws t a u
      → AddsDrawn (times m draws) s before (now ++ a ∷ []) u
  adds_step n m s t u before now a next first more =
      let next_is : m ≡ suc n = omega (arith, next) in
      let d : Drawn (List A) = times n draws s in
      let e : draws d.state ≡ record { what = a; state = u } = ap draws (sym first.1) ∙ more in
      let all : times m draws s ≡ record { what = d.what ++ a ∷ []; state = u } =
      ap (λ k. times k draws s) next_is
      ∙ (times_more n s ∙ ap (λ (e : Drawn A). record { what = d.what ++ e.what ∷ []; state = e.state }) e) in (
        ap (λ xs. xs ++ a ∷ []) first.0
            ∙ (append_assoc before d.what (a ∷ []) ∙ ap (λ (d : Drawn (List A)). before ++ d.what) (sym all)),
        ap (λ (d : Drawn (List A)). d.state) (sym all),
      )

  pub adds_all : (n m s t : ℕ) (before after : List A) → n ≡ m → AddsDrawn (times n draws) s before after t
      → AddsDrawn (times m draws) s before after t
  adds_all n m s t before after same added = subst (λ k. AddsDrawn (times k draws) s before after t) same added

  -- one thing more behind what is drawn
  pub adds_last : (s t u : ℕ) (before now : List A) (many : Draws (List A)) (both : Draws (List A)) (a : A)
      → AddsDrawn many s before now t → IsDrawn draws t a u
      → both s ≡ one_more (many s) draws → AddsDrawn both s before (now ++ a ∷ []) u
  adds_last s t u before now many both a first more both_is =
      let d : Drawn (List A) = many s in
      let e : draws d.state ≡ record { what = a; state = u } = ap draws (sym first.1) ∙ more in
      let all : both s ≡ record { what = d.what ++ a ∷ []; state = u } = both_is
      ∙ ap (λ (e : Drawn A). record { what = d.what ++ e.what ∷ []; state = e.state }) e in (
        ap (λ xs. xs ++ a ∷ []) first.0
            ∙ (append_assoc before d.what (a ∷ []) ∙ ap (λ (d : Drawn (List A)). before ++ d.what) (sym all)),
        ap (λ (d : Drawn (List A)). d.state) (sym all),
      )

-- the parts that are drawn, one behind another
abbrev pub joined : {A : Type 0} → Drawn (List (List A)) → Drawn (List A)
joined d = record { what = flat_map (λ part. part) d.what; state = d.state }

module _ {A : Type 0} (draws : Draws (List A)) where
  pub parts_step : (n m s t u : ℕ) (now after : List A) → m ≡ n + 1 → joined (times n draws s) ≡ record { what = now; state = t }
      → AddsDrawn draws t now after u
      → joined (times m draws s) ≡ record { what = after; state = u }
  parts_step n m s t u now after next first more =
      let next_is : m ≡ suc n = omega (arith, next) in
      let d : Drawn (List (List A)) = times n draws s in
      let at : d.state ≡ t = ap (λ (d : Drawn (List A)). d.state) first in
      let what : flat_map (λ part. part) d.what ≡ now = ap (λ (d : Drawn (List A)). d.what) first in
      let e : Drawn (List A) = draws t in
      let all : times m draws s ≡ record { what = d.what ++ e.what ∷ []; state = e.state } =
      ap (λ k. times k draws s) next_is
      ∙ (times_more draws n s ∙ ap (λ (k : ℕ). let e = draws k in
      record { what = d.what ++ e.what ∷ []; state = e.state }) at) in
      let text : flat_map (λ part. part) (d.what ++ e.what ∷ []) ≡ after =
      flat_map-append (λ part. part) d.what (e.what ∷ [])
      ∙ (ap (λ xs. flat_map (λ part. part) d.what ++ xs) (append-nil e.what) ∙ (ap (λ xs. xs ++ e.what) what ∙ sym more.0)) in
      ap joined all ∙ (λ i. record { what = text i; state = sym more.1 i })

module _ {A B : Type 0} (draws : A → Draws B) where
  pub for_each_more : (as_ : List A) (a : A) (s : ℕ) → for_each (as_ ++ a ∷ []) draws s ≡ one_more (for_each as_ draws s) (draws a)
  for_each_more [] a s = refl
  for_each_more (b ∷ bs) a s = ap (one_first (draws b s).what) (for_each_more bs a (draws b s).state)

  pub for_each_step : (as_ all : List A) (a : A) (s t u : ℕ) (before : List B) (b : B) → all ≡ as_ ++ a ∷ []
      → IsDrawn (for_each as_ draws) s before t → IsDrawn (draws a) t b u
      → IsDrawn (for_each all draws) s (before ++ b ∷ []) u
  for_each_step as_ all a s t u before b all_is first more =
      let one : Drawn B → Drawn (List B) = λ e. record { what = before ++ e.what ∷ []; state = e.state } in
      ap (λ xs. for_each xs draws s) all_is ∙ (for_each_more as_ a s ∙ (ap (λ d. one_more d (draws a)) first ∙ ap one more))

more : (first last n : ℕ) → last ≡ first + n → count_from first (suc n) ≡ count_from first n ++ last ∷ []
more first last zero e = let is : first ≡ last = omega (arith, e) in ap (λ k. k ∷ []) is
more first last (suc n) e = ap (λ ks. first ∷ ks) (more (suc first) last n (omega (arith, e)))

pub count_more : (n : ℕ) → count_from 0 (n + 1) ≡ count_from 0 n ++ n ∷ []
count_more n = let next : n + 1 ≡ suc n = omega arith in ap (count_from 0) next ∙ more 0 n n (omega arith)

pub each_all : {B : Type 0} (draws : ℕ → Draws B) (n m s t : ℕ) (what : List B) → n ≡ m
    → IsDrawn (for_each (count_from 0 n) draws) s what t → IsDrawn (for_each (count_from 0 m) draws) s what t
each_all draws n m s t what same drawn = ap (λ k. for_each (count_from 0 k) draws s) (sym same) ∙ drawn
