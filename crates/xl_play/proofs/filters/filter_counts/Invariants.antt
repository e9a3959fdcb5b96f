use Rattle.std.proofs.Common.{◌≡◌, length, map, take}
use Rattle.xl_play.proofs.filters.filter_counts.Given as goal

abbrev pub invariant-loop-boxes : goal.invariant-loop-boxes
invariant-loop-boxes g l = l.counts.items ≡ map (λ boxes. length boxes.items) (take l.boxes-index l.chest)
