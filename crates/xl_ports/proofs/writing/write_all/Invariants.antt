use Rattle.std.proofs.Common.{◌-◌, ◌≤◌, length, take}
use Rattle.xl_ports.specs.Sink.{WritesAll}
use Rattle.xl_ports.proofs.writing.write_all.Given as goal

abbrev pub invariant-loop-done : goal.invariant-loop-done
invariant-loop-done g l = record {
  within : l.done ≤ length l.bytes;
  so_far : WritesAll g.K.Sink.held g.K.Sink.faults l.initial.sink l.sink (take l.done l.bytes);
}

abbrev pub decreases-loop-done : goal.decreases-loop-done
decreases-loop-done g l = length l.bytes - l.done
