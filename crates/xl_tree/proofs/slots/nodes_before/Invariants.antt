use Rattle.std.proofs.Common.{◌≡◌, ◌+◌}
use Rattle.spec_document.specs.Forest.{size, count}
use Rattle.spec_document.specs.Holes.{from_place}
use Rattle.xl_tree.proofs.slots.nodes_before.Given as goal

abbrev pub invariant-loop-passed : goal.invariant-loop-passed
invariant-loop-passed g l =
    (from_place l.passed l.fn.stack ≡ l.rest) × (l.passed + count l.rest ≡ count l.fn.stack) × (l.all ≡ size l.fn.stack)
