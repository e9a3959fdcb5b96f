use Rattle.std.proofs.Common.{◌-◌, ◌<◌, ◌≤◌, ℕ, length}
use Rattle.std.specs.Prelude.{slice_index_or, vec_capacity}
use Rattle.xl_report.specs.Bands.{HasRoom}
use Rattle.xl_report.proofs.lanes.new_lanes.Given as goal

-- there is room for some bands, and each of these has it
abbrev pub invariant-loop-alloc : goal.invariant-loop-alloc
invariant-loop-alloc l = record {
  some : 1 ≤ length l.lanes.items;
  few : length l.lanes.items ≤ l.fn.count;
  more : l.fn.count ≤ vec_capacity l.lanes;
  room : (k : ℕ) (d : _) → k < length l.lanes.items
      → HasRoom l.fn.doc (slice_index_or l.lanes.items k d).composer (slice_index_or l.lanes.items k d).bytes.items;
}

abbrev pub decreases-loop-alloc : goal.decreases-loop-alloc
decreases-loop-alloc l = l.fn.count - length l.lanes.items
