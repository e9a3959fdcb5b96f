use Rattle.std.proofs.Common.{◌≡◌}
use Rattle.spec_document.specs.Holes.{from_place}
use Rattle.xl_tree.proofs.places.from_place.Given as goal

abbrev pub invariant-loop-passed : goal.invariant-loop-passed
invariant-loop-passed g l = from_place l._passed l.fn.stack ≡ l.rest
