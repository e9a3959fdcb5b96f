use Rattle.std.proofs.Common.{◌≡◌, drop}
use Rattle.xl_tree.specs.Flat.{from_id}
use Rattle.xl_tree.proofs.entries.from_id.Given as goal

abbrev pub invariant-loop-at : goal.invariant-loop-at
invariant-loop-at g l = from_id l.id l.entries ≡ from_id l.id (drop l.at l.entries)
