-- Moments that grow by an entry, and what a beginning of them knows.
use Rattle.std.proofs.Common.{◌≡◌, ℕ, suc, ◌+◌, List, [], ◌∷◌, ◌++◌, length, None, refl, sym, ap, ◌∙◌, arith, append_assoc}
use mathlib.Core.List.{IsPrefix}
use Rattle.spec_document.specs.Document.{Document}
use Rattle.spec_history.specs.History.{asked, Entry}
use Rattle.xl_studio.specs.declared.moment.Moment.{Moment}
use Rattle.xl_studio.specs.declared.moment.Moment.TheVariants.{Opened, Made}
use Rattle.xl_studio.specs.Moments.{handed_at, starts_with, made_from, moments, entry_in, entries_in}

abbrev pub starts_after : ℕ → List Entry → ℕ
starts_after n [] = n
starts_after n (e ∷ es) = starts_after (starts_with n e.kind) es

module _ {K : Type 0} where
  -- ---- one entry more

  pub made-snoc : (handed : List K) (n : ℕ) (es : List Entry) (e : Entry)
      → made_from handed n (es ++ e ∷ []) ≡ made_from handed n es ++ Made e (handed_at handed (starts_after n es) e.kind) ∷ []
  made-snoc handed n [] e = refl
  made-snoc handed n (x ∷ es) e = ap (λ ms. Made x (handed_at handed n x.kind) ∷ ms) (made-snoc handed (starts_with n x.kind) es e)

  -- a call hands no shelf out
  pub moments-call : (base : Document) (opening : K) (handed : List K) (es : List Entry) (e : Entry) (call : _)
      (tables : List (List ℕ)) → e.kind ≡ asked call tables
      → moments base opening handed (es ++ e ∷ []) ≡ moments base opening handed es ++ Made e None ∷ []
  moments-call base opening handed es e call tables is =
      ap (λ ms. Opened base opening ∷ ms)
      (made-snoc handed 0 es e ∙ ap (λ k. made_from handed 0 es ++ Made e (handed_at handed (starts_after 0 es) k) ∷ []) is)

  -- ---- and back

  pub entries-append : (xs ys : List (Moment K)) → entries_in (xs ++ ys) ≡ entries_in xs ++ entries_in ys
  entries-append [] ys = refl
  entries-append (x ∷ xs) ys =
      ap (λ es. entry_in x ++ es) (entries-append xs ys) ∙ sym (append_assoc (entry_in x) (entries_in xs) (entries_in ys))

  entries-made : (handed : List K) (n : ℕ) (es : List Entry) → entries_in (made_from handed n es) ≡ es
  entries-made handed n [] = refl
  entries-made handed n (e ∷ es) = ap (λ xs. e ∷ xs) (entries-made handed (starts_with n e.kind) es)

  pub entries-moments : (base : Document) (opening : K) (handed : List K) (es : List Entry)
      → entries_in (moments base opening handed es) ≡ es
  entries-moments base opening handed es = entries-made handed 0 es

  length-made : (handed : List K) (n : ℕ) (es : List Entry) → length (made_from handed n es) ≡ length es
  length-made handed n [] = refl
  length-made handed n (e ∷ es) = ap suc (length-made handed (starts_with n e.kind) es)

  pub length-moments : (base : Document) (opening : K) (handed : List K) (es : List Entry)
      → length (moments base opening handed es) ≡ length es + 1
  length-moments base opening handed es = let l = length-made handed 0 es in omega (arith, l)

  pub entries-prefix : (xs ys : List (Moment K)) → IsPrefix xs ys → IsPrefix (entries_in xs) (entries_in ys)
  entries-prefix xs ys begins = (entries_in begins.0, sym (entries-append xs begins.0) ∙ ap entries_in begins.1)
