use Rattle.std.proofs.Common.{◌≡◌, ◌+◌, ◌*◌, ◌≤◌, length, take}
use Rattle.xl_compose.specs.Levels.{AreShown, points}
use Rattle.xl_compose.specs.Pieces.{weights}
use Rattle.xl_compose.proofs.laying.lay_pieces.Given as goal

-- the pieces so far are laid
abbrev pub invariant-loop-i : goal.invariant-loop-i
invariant-loop-i g l = record {
  size : length l.scratch ≡ length l.fn.scratch;
  shown : AreShown l.colours l.fn.band (take l.i l.pieces) l.scratch;
  cost : l.steps ≤ l.fn.steps + weights (take l.i l.pieces) * points l.fn.band;
}
