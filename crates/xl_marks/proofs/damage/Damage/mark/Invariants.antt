use Rattle.std.proofs.Common.{◌≡◌, drop}
use Rattle.xl_regions.specs.Pairs.{pairs_of}
use Rattle.spec_standing.specs.Change.{marked_by}
use Rattle.xl_marks.proofs.damage.Damage.mark.Given as goal

abbrev pub invariant-loop-stack : goal.invariant-loop-stack
invariant-loop-stack l = marked_by (pairs_of (drop l.stack-index l.stack-items)) l.version l.cache
    ≡ marked_by (pairs_of l.stack-items) l.version l.initial.cache
