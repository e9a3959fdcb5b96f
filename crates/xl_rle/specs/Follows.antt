-- What becomes of a coder by planes, one after another.
use Rattle.std.specs.Prelude.{◌≡◌, ℕ, List, [], ◌∷◌}

-- it follows each of the planes, in their order
abbrev pub FollowsEach : {S : Type 0} → (follows : S → List ℕ → S → Type 0) → (before : S) → (planes : List (List ℕ)) → (after : S)
    → Type 0
FollowsEach follows before [] after = after ≡ before
FollowsEach {S = S} follows before (plane ∷ planes) after =
    (between : S) × follows before plane between × FollowsEach follows between planes after
