use Rattle.std.proofs.Common.{[], ◌∷◌}
use Rattle.xl_tile.specs.Joined.{IsJoined}
use Rattle.xl_tile.proofs.join.join_two.Given as goal

-- the pixels so far are joined
abbrev pub invariant-loop-k : goal.invariant-loop-k
invariant-loop-k l = IsJoined 2 l.k (l.first ∷ l.second ∷ []) l.tile
