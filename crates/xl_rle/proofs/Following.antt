-- Planes that a coder followed, behind others that it followed.
use Rattle.std.proofs.Common.{ℕ, List, [], ◌∷◌, ◌++◌, refl, subst}
use Rattle.xl_rle.specs.Follows.{FollowsEach}

module _ {S : Type 0} (follows : S → List ℕ → S → Type 0) where
  pub follows-append : (ps qs : List (List ℕ)) (before between after : S) → FollowsEach follows before ps between
      → FollowsEach follows between qs after → FollowsEach follows before (ps ++ qs) after
  follows-append [] qs before between after first second = subst (λ s. FollowsEach follows s qs after) first second
  follows-append (p ∷ ps) qs before between after (next, step, rest) second =
      (next, step, follows-append ps qs next between after rest second)

  pub follows_one : (plane : List ℕ) (before after : S) → follows before plane after → FollowsEach follows before (plane ∷ []) after
  follows_one plane before after step = (after, step, refl)

  -- one plane more, behind the others
  pub follows_more : (ps : List (List ℕ)) (plane : List ℕ) (before between after : S) → FollowsEach follows before ps between
      → follows between plane after → FollowsEach follows before (ps ++ plane ∷ []) after
  follows_more ps plane before between after first step =
      follows-append ps (plane ∷ []) before between after first (follows_one plane between after step)
