use Rattle.std.proofs.Common.{length, ◌-◌}
use Rattle.xl_fields.specs.Behind.{BeginsWith}
use Rattle.xl_rle.proofs.GreedyCodes.{Coding}
use Rattle.xl_rle.proofs.greedy.append_codes.Given as goal

abbrev pub invariant-loop-at : goal.invariant-loop-at
invariant-loop-at l = record {
  coding : Coding l.plane l.out.items l.initial.out.items l.at;
  front : BeginsWith l.out.items l.initial.out.items;
}

abbrev pub decreases-loop-at : goal.decreases-loop-at
decreases-loop-at l = length l.plane - l.at
