-- The lines of a session, entry by entry.
use Rattle.std.proofs.Common.{◌≡◌, ℕ, zero, suc, ◌+◌, arith, List, [], ◌∷◌, ◌++◌, ap, sym, ◌∙◌, append-nil, flat_map}
use Rattle.std.specs.Prelude.{slice_get, unwrap_or}
use Rattle.std.specs.List.{AllByRecursion}
use Rattle.std.proofs.lemmas.List.Concat.{flat_map-append}
use Rattle.spec_document.specs.Rect.{count_from}
use Rattle.spec_history.specs.History.{Entry, mine}
use Rattle.xl_run.specs.Printing.{IsPrinted, lines_with, lines_of_sessions}

-- what was printed and what is left are together all lines of the session, and all that is left has a line
pub record IsOnTheWay (session : ℕ) (text : List ℕ) (digests : List (List ℕ)) (es : List Entry) (done : List ℕ)
    (left : List (List ℕ)) (rest : List Entry) : Type 0 where
  pub together : done ++ lines_with left (mine rest session) ≡ text ++ lines_with digests (mine es session)
  pub printed : AllByRecursion (λ e. IsPrinted e.reply) rest

-- ---- one session more

count_more : (first n : ℕ) → count_from first (suc n) ≡ count_from first n ++ (first + n) ∷ []
count_more first zero = ap (λ (k : ℕ). k ∷ []) (omega arith)
count_more first (suc n) =
    ap (λ (ks : List ℕ). first ∷ ks) (count_more (suc first) n ∙ ap (λ (k : ℕ). count_from (suc first) n ++ k ∷ []) (omega arith))

pub sessions_more : (digests : List (List (List ℕ))) (es : List Entry) (session : ℕ) (text new : List ℕ)
    → text ≡ lines_of_sessions digests es session
    → new ≡ text ++ lines_with (unwrap_or (slice_get digests session) []) (mine es session)
    → new ≡ lines_of_sessions digests es (session + 1)
sessions_more digests es session text new is more =
    let f : ℕ → List ℕ = λ k. lines_with (unwrap_or (slice_get digests k) []) (mine es k) in
    let one : session + 1 ≡ suc session = omega arith in
    more ∙ ap (λ (front : List ℕ). front ++ f session) is
    ∙ ap (λ (line : List ℕ). flat_map f (count_from 0 session) ++ line) (sym (append-nil (f session)))
    ∙ sym (flat_map-append f (count_from 0 session) (session ∷ []))
    ∙ ap (flat_map f) (ap (λ (k : ℕ). count_from 0 session ++ k ∷ []) (omega arith) ∙ sym (count_more 0 session))
    ∙ ap (λ (n : ℕ). flat_map f (count_from 0 n)) (sym one)
