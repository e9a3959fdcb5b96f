use Rattle.std.proofs.Common.{◌≡◌, max, drop}
use Rattle.xl_tree.specs.Flat.{deepest}
use Rattle.xl_tree.proofs.entries.deepest.Given as goal

abbrev pub invariant-loop-entry : goal.invariant-loop-entry
invariant-loop-entry g l = max l.level (deepest (drop l.entry-index l.entries)) ≡ deepest l.entries
