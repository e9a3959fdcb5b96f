use Rattle.std.proofs.Common.{◌≡◌, ◌+◌, ◌≤◌, drop}
use Rattle.std.specs.Prelude.{option_map}
use Rattle.spec_document.specs.Forest.{size}
use Rattle.xl_tree.specs.Places.{end_at}
use Rattle.xl_tree.proofs.places.end_at.Given as goal
use Rattle.spec_document.specs.declared.TheConstants.{MAX_NODES}

abbrev pub invariant-loop-place : goal.invariant-loop-place
invariant-loop-place g l =
    (end_at l.path l.fn.stack ≡ option_map (λ n. l.before + n) (end_at (drop l.place-index l.path) l.rest))
    × (l.before + size l.rest ≤ MAX_NODES)
