-- The entries at some places of a history, counted from 0, and what whoever made them has seen.
use Rattle.std.specs.Prelude.{◌≡◌, ℕ, ◌+◌, ◌<◌, Bool, nat_lt, if◌then◌else◌, List, [], ◌∷◌, MatchBool}
use Rattle.spec_history.specs.History.{Entry, is_changed, latest_of}
use Rattle.spec_history.specs.Kept.{IsFreshReply}
use Rattle.xl_turn.specs.Sums.{times}

-- whether the place is one of these
abbrev pub is_at : (place : ℕ) → (places : List ℕ) → Bool
is_at place places = nat_lt 0 (times place places)

-- each place is behind the one before it
abbrev pub Rise : (places : List ℕ) → Type 0
Rise [] = Unit {0}
Rise (p ∷ []) = Unit {0}
Rise (p ∷ q ∷ places) = (p < q) × Rise (q ∷ places)

-- the entries at these places, where the first of the list has the place `at`
abbrev pub picked_from : (at : ℕ) → (places : List ℕ) → List Entry → List Entry
picked_from at places [] = []
picked_from at places (e ∷ es) = if is_at at places then e ∷ picked_from (at + 1) places es else picked_from (at + 1) places es

-- the entries of a history at these places, in the history's order
abbrev pub picked : (places : List ℕ) → List Entry → List Entry
picked places es = picked_from 0 places es

-- ---- what was seen

abbrev pub seen_from : (at : ℕ) → (places : List ℕ) → (now seen : ℕ) → List Entry → ℕ
seen_from at places now seen [] = seen
seen_from at places now seen (e ∷ es) =
    let then_is = if is_changed e.reply then now + 1 else now in
    seen_from (at + 1) places then_is (if is_at at places then then_is else seen) es

-- the version that stands right after the last of the places, and 0 where there is none
abbrev pub seen_at : (places : List ℕ) → List Entry → ℕ
seen_at places es = seen_from 0 places 0 0 es

-- nothing came since that could be seen
abbrev pub IsCaughtUp : (places : List ℕ) → List Entry → Type 0
IsCaughtUp places es = seen_at places es ≡ latest_of es

abbrev pub IsFreshAtFrom : (at : ℕ) → (places : List ℕ) → (now seen : ℕ) → List Entry → Type 0
IsFreshAtFrom at places now seen [] = Unit {0}
IsFreshAtFrom at places now seen (e ∷ es) =
    let then_is = if is_changed e.reply then now + 1 else now in
    MatchBool (is_at at places) (IsFreshReply seen e.reply
    × IsFreshAtFrom (at + 1) places then_is then_is es) (IsFreshAtFrom (at + 1) places then_is seen es)

-- no reply at these places is older than what was seen at the one before
abbrev pub IsFreshAt : (places : List ℕ) → List Entry → Type 0
IsFreshAt places es = IsFreshAtFrom 0 places 0 0 es
