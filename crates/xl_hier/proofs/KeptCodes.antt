-- Spellings that a coder keeps as they stand.
use Rattle.std.proofs.Common.{ℕ, ◌+◌, ◌≤◌, List, [], ◌∷◌, length, refl}
use Rattle.spec_rle.specs.declared.TheConstants.{MAX_EXCESS}
use Rattle.spec_rle.specs.Codes.{Spells, AnySpelling}
use Rattle.spec_hierarchy.specs.Layout.{AreSpelled}
use Rattle.xl_rle.specs.Follows.{FollowsEach}

-- they fit, where any does
pub kept_fit : (fits : List ℕ → List ℕ → Type 0)
    → ((plane spelled : List ℕ) → Spells spelled plane → length spelled ≤ length plane + MAX_EXCESS → fits plane spelled)
    → (bytes : List ℕ) (planes : List (List ℕ)) → AreSpelled AnySpelling bytes planes → AreSpelled fits bytes planes
kept_fit fits any bytes [] are = are
kept_fit fits any bytes (plane ∷ planes) (spelled, rest, spells, short, fitting, is, are) =
    (spelled, rest, spells, short, any plane spelled spells short, is, kept_fit fits any rest planes are)

-- the coder stays by them, where it may stay by each
pub stays_by : {S : Type 0} (follows : S → List ℕ → S → Type 0) → ((coder : S) (plane : List ℕ) → follows coder plane coder)
    → (coder : S) (planes : List (List ℕ)) → FollowsEach follows coder planes coder
stays_by follows stays coder [] = refl
stays_by follows stays coder (plane ∷ planes) = (coder, stays coder plane, stays_by follows stays coder planes)
