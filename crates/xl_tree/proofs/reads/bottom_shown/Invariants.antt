use Rattle.std.proofs.Common.{◌≡◌, option_map}
use Rattle.spec_document.specs.Forest.{size}
use Rattle.xl_tree.specs.Places.{first_some}
use Rattle.xl_tree.specs.Reads.{bottom_shown}
use Rattle.xl_tree.proofs.reads.bottom_shown.Given as goal

abbrev pub invariant-loop-bottom : goal.invariant-loop-bottom
invariant-loop-bottom g l =
    first_some (bottom_shown g.N.Shown.shown l.rest) (option_map (λ i. i.0) l.bottom) ≡ bottom_shown g.N.Shown.shown l.fn.stack

abbrev pub decreases-loop-bottom : goal.decreases-loop-bottom
decreases-loop-bottom g l = size l.rest
