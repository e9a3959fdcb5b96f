use Rattle.std.proofs.Common.{◌≡◌, max, drop}
use Rattle.std.specs.List.{fold}
use Rattle.xl_tree.specs.Ids.{ids_of}
use Rattle.xl_tree.proofs.entries.greatest.Given as goal

abbrev pub invariant-loop-entry : goal.invariant-loop-entry
invariant-loop-entry g l = fold max l.greatest (ids_of (drop l.entry-index l.entries)) ≡ fold max 0 (ids_of l.entries)
