-- The columns of a part of a layer laid over a band, some after others.
use Rattle.std.proofs.Common.{◌≡◌, ℕ, ◌+◌, ◌-◌, ◌*◌, ◌<◌, ◌≤◌, ◌⊎◌, cond, ◌&&◌, nat_lt, List, sym, ◌∙◌, ap, subst, arith, inl, inr}
use Rattle.std.specs.Prelude.{Option, Some, None, nat_le}
use Rattle.std.proofs.lemmas.Bool.Decides.{nat_tests}
use Rattle.spec_document.specs.declared.Mode.{Mode}
use Rattle.spec_document.specs.declared.Pixel.{Pixel}
use Rattle.spec_document.specs.Over.{over}
use Rattle.xl_compose.specs.Laid.{pixel}
use Rattle.xl_compose.specs.Span.{place_by}
use Rattle.xl_compose.specs.Source.{at_place}
use Rattle.xl_compose.specs.Neat.{IsNeat}
use Rattle.xl_compose.proofs.BandRows.{AreLaidTo, AreNeat}
use Rattle.xl_compose.proofs.Layers.{no_common}
use Rattle.xl_compose.proofs.NeatPixels.{over_clear, over_neat}

in_front : (skip from done wide k : ℕ) → k < skip + done → place_by skip from (done + wide) k ≡ place_by skip from done k
in_front skip from done wide k before = grind (arith, nat_tests)

none_behind : (start from wide k : ℕ) → k < start → place_by start from wide k ≡ None
none_behind start from wide k before = grind (arith, nat_tests)

none_in_front : (skip from done k : ℕ) → skip + done ≤ k → place_by skip from done k ≡ None
none_in_front skip from done k past = grind (arith, nat_tests)

same_test : (skip done wide k : ℕ) → skip + done ≤ k
    → (nat_le (skip + done) k && nat_lt k (skip + done + wide)) ≡ (nat_le skip k && nat_lt k (skip + (done + wide)))
same_test skip done wide k past = grind (arith, nat_tests)

behind : (skip from done wide k : ℕ) → skip + done ≤ k
    → place_by (skip + done) (from + done) wide k ≡ place_by skip from (done + wide) k
behind skip from done wide k past =
    let here : from + done + (k - (skip + done)) ≡ from + (k - skip) = omega (arith, past) in
    λ i. cond (same_test skip done wide k past i) (Some (here i)) None

laid_neat : (mode : Mode) (p q above : Pixel) → IsNeat p → q ≡ over mode p above → IsNeat q
laid_neat mode p q above neat is = subst IsNeat (sym is) (over_neat mode p above neat)

-- one pixel, over which columns were laid, when others are
more_here : (mode : Mode) (p q r : Pixel) (skip from done wide k : ℕ) (row : Option ℕ) (of : ℕ → ℕ → Pixel) → IsNeat p
    → q ≡ over mode p (at_place (place_by skip from done k) row of)
    → r ≡ over mode q (at_place (place_by (skip + done) (from + done) wide k) row of)
    → (k < skip + done) ⊎ (skip + done ≤ k)
    → r ≡ over mode p (at_place (place_by skip from (done + wide) k) row of)
more_here mode p q r skip from done wide k row of neat q_is r_is (inl before) =
    r_is
    ∙ (ap (λ column. over mode q (at_place column row of)) (none_behind (skip + done) (from + done) wide k before)
    ∙ (over_clear mode q (laid_neat mode p q (at_place (place_by skip from done k) row of) neat q_is)
    ∙ (q_is ∙ ap (λ column. over mode p (at_place column row of)) (sym (in_front skip from done wide k before)))))
more_here mode p q r skip from done wide k row of neat q_is r_is (inr past) =
    let same : q ≡ p = q_is ∙ (ap (λ column. over mode p (at_place column row of)) (none_in_front skip from done k past)
    ∙ over_clear mode p neat) in
    r_is
    ∙ (ap (λ s. over mode s (at_place (place_by (skip + done) (from + done) wide k) row of)) same
    ∙ ap (λ column. over mode p (at_place column row of)) (behind skip from done wide k past))

either_side : (k n : ℕ) → (k < n) ⊎ (n ≤ k)
either_side k n = grind (arith, nat_tests)

-- before the first column
pub no_columns : (mode : Mode) (skip from top y rows w h : ℕ) (of : ℕ → ℕ → Pixel) (old : List Pixel) → AreNeat w h old
    → AreLaidTo mode skip from 0 top y rows w h of old old
no_columns mode skip from top y rows w h of old neat v k hv hk =
    sym (ap (λ column. over mode (pixel old (v * w + k)) (at_place column (place_by top y rows v) of)) (no_common skip from k)
    ∙ over_clear mode (pixel old (v * w + k)) (neat v k hv hk))

-- what is laid over a neat band leaves it neat
pub still_neat : (mode : Mode) (left x n top y rows w h : ℕ) (of : ℕ → ℕ → Pixel) (old new : List Pixel) → AreNeat w h old
    → AreLaidTo mode left x n top y rows w h of old new → AreNeat w h new
still_neat mode left x n top y rows w h of old new neat laid v k hv hk =
    laid_neat mode (pixel old (v * w + k)) (pixel new (v * w + k)) (at_place (place_by left x n k) (place_by top y rows v) of)
    (neat v k hv hk) (laid v k hv hk)

-- some columns more
pub more_columns : (mode : Mode) (skip from done wide top y rows w h : ℕ) (of : ℕ → ℕ → Pixel) (old mid new : List Pixel)
    → AreNeat w h old
    → AreLaidTo mode skip from done top y rows w h of old mid
    → AreLaidTo mode (skip + done) (from + done) wide top y rows w h of mid new
    → AreLaidTo mode skip from (done + wide) top y rows w h of old new
more_columns mode skip from done wide top y rows w h of old mid new neat before here v k hv hk =
    more_here mode (pixel old (v * w + k)) (pixel mid (v * w + k)) (pixel new (v * w + k)) skip from done wide k
    (place_by top y rows v) of (neat v k hv hk)
    (before v k hv hk) (here v k hv hk) (either_side k (skip + done))

-- the steps of some columns more
pub column_cost : (old mid new h done wide : ℕ) → mid ≡ old + h * done → new ≡ mid + h * wide → new ≡ old + h * (done + wide)
column_cost old mid new h done wide before here =
    let all : h * (done + wide) ≡ h * done + h * wide = omega arith in
    omega (arith, before, here, all)
