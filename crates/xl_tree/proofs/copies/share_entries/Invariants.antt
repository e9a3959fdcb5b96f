use Rattle.std.proofs.Common.{◌≡◌, ◌≤◌, take}
use Rattle.std.specs.Vec.{vec_capacity}
use Rattle.xl_tree.proofs.copies.share_entries.Given as goal
use Rattle.spec_document.specs.declared.TheConstants.{MAX_NODES}

abbrev pub invariant-loop-entry : goal.invariant-loop-entry
invariant-loop-entry g l = (l.others.items ≡ take l.entry-index l.entries) × (MAX_NODES ≤ vec_capacity l.others)
