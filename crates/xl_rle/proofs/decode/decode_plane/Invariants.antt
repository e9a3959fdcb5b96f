use Rattle.std.proofs.Common.{◌≡◌, ◌-◌, ◌<◌, ◌≤◌, true, length, take}
use Rattle.xl_rle.proofs.Short.{IsAmple}
use Rattle.xl_rle.proofs.Steps.{Reading}
use Rattle.xl_rle.proofs.decode.decode_plane.Given as goal

-- what is read so far stands at the front of the plane
abbrev pub invariant-loop-filled : goal.invariant-loop-filled
invariant-loop-filled l = Reading (take l.filled l.out) l.bytes l.initial.at l.at (length l.initial.out) l.filled l.left

abbrev pub decreases-loop-filled : goal.decreases-loop-filled
decreases-loop-filled l = l.left

-- short codes leave something to be filled
abbrev pub invariant-loop-first : goal.invariant-loop-first
invariant-loop-first l =
    Reading (take l.filled l.out) l.bytes l.fn.at l.at (length l.fn.out) l.filled l.left
    × (l.filled < length l.fn.out)
    × (l.left ≤ l.initial.left)
    × (l.ample ≡ true → IsAmple l.bytes l.at (length l.fn.out - l.filled) l.left)

abbrev pub decreases-loop-first : goal.decreases-loop-first
decreases-loop-first l = l.left
