-- What one piece more makes of the pictures.
use Rattle.std.proofs.Common.{◌≡◌, ℕ, ◌+◌, cond, List, [], ◌∷◌, ◌++◌, refl, ◌∙◌, ap, arith, eq-eqb}
use Rattle.std.proofs.lemmas.Bool.{ne_eqb}
use Rattle.spec_document.specs.declared.Pixel.{Pixel}
use Rattle.spec_document.specs.Over.{clear}
use Rattle.xl_compose.specs.declared.pieces.Piece.{Piece}
use Rattle.xl_compose.specs.declared.pieces.What.{What}
use Rattle.xl_compose.specs.declared.span.Band.{Band}
use Rattle.xl_compose.specs.Pieces.{AllFit, Fits, after, changed, run, shown, weight, weights}

pub run-append : (colours : List (List ℕ)) (band : Band) (v k : ℕ) (old more : List Piece) (of : ℕ → Pixel)
    → run colours band v k (old ++ more) of ≡ run colours band v k more (run colours band v k old of)
run-append colours band v k [] more of = refl
run-append colours band v k (p ∷ old) more of = run-append colours band v k old more (after colours band v k p of)

-- one piece more
pub shown-push : (colours : List (List ℕ)) (band : Band) (v k : ℕ) (old : List Piece) (p : Piece) (l : ℕ)
    → shown colours band v k (old ++ p ∷ []) l ≡ after colours band v k p (shown colours band v k old) l
shown-push colours band v k old p l = ap (λ (of : ℕ → Pixel). of l) (run-append colours band v k old (p ∷ []) (λ n. clear))

-- at its own level, and beside it
pub shown-own : (colours : List (List ℕ)) (band : Band) (v k : ℕ) (old : List Piece) (level : ℕ) (what : What)
    → shown colours band v k (old ++ record { level = level; what = what } ∷ []) level
    ≡ changed colours band v k what (shown colours band v k old level) (shown colours band v k old (level + 1))
shown-own colours band v k old level what =
    shown-push colours band v k old (record { level = level; what = what }) level
    ∙ ap (λ b. cond b (changed colours band v k what (shown colours band v k old level) (shown colours band v k old (level + 1)))
    (shown colours band v k old level)) (eq-eqb level level refl)

pub shown-beside : (colours : List (List ℕ)) (band : Band) (v k : ℕ) (old : List Piece) (level : ℕ) (what : What) (l : ℕ)
    → (l ≡ level → ⊥)
    → shown colours band v k (old ++ record { level = level; what = what } ∷ []) l ≡ shown colours band v k old l
shown-beside colours band v k old level what l other =
    shown-push colours band v k old (record { level = level; what = what }) l
    ∙ ap (λ b. cond b (changed colours band v k what (shown colours band v k old level) (shown colours band v k old (level + 1)))
    (shown colours band v k old l)) (ne_eqb l level other)

pub weights-push : (old : List Piece) (p : Piece) → weights (old ++ p ∷ []) ≡ weights old + weight p.what
weights-push [] p = omega arith
weights-push (q ∷ old) p = omega (arith, weights-push old p)

pub fit-push : (deep : ℕ) (band : Band) (old : List Piece) (p : Piece) → Fits deep band p → AllFit deep band old
    → AllFit deep band (old ++ p ∷ [])
fit-push deep band [] p fits all = (fits, tt)
fit-push deep band (q ∷ old) p fits all = (all.0, fit-push deep band old p fits all.1)
