use Rattle.std.proofs.Common.{◌≡◌, ◌+◌, ◌-◌, ◌≤◌, take, vec_len}
use Rattle.xl_ports.specs.Source.{led_by}
use Rattle.xl_ports.proofs.reading.read_all.Given as goal

abbrev pub invariant-loop-filled : goal.invariant-loop-filled
invariant-loop-filled g l = let S = g.S.Source in record {
  filled : l.filled ≤ vec_len l.bytes;
  short : vec_len l.bytes ≤ l.limit;
  given : S.left l.initial.source ≡ led_by (take l.filled l.bytes.items) (S.left l.source);
  reads : S.reads l.source ≤ S.reads l.initial.source + l.filled;
  no_fault : S.faults l.source ≡ S.faults l.initial.source;
}

abbrev pub decreases-loop-filled : goal.decreases-loop-filled
decreases-loop-filled g l = l.limit - l.filled
