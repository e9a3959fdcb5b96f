use Rattle.std.proofs.Common.{◌≡◌, ◌-◌, ◌≤◌, ◌<◌, ℕ, length}
use Rattle.std.specs.Prelude.{slice_index_or}
use Rattle.spec_document.specs.Picture.{picture_bytes}
use Rattle.xl_ports.specs.Sink.{WritesAll}
use Rattle.xl_report.specs.Bands.{HasRoom}
use Rattle.xl_report.proofs.writing.write_rows.Given as goal

-- the rows so far are written, and there is room as before
abbrev pub invariant-loop-y : goal.invariant-loop-y
invariant-loop-y g l = record {
  within : l.y ≤ l.doc.height;
  many : length l.lanes ≡ length l.fn.lanes;
  room : (k : ℕ) (d : _) → k < length l.lanes
      → HasRoom l.doc (slice_index_or l.lanes k d).composer (slice_index_or l.lanes k d).bytes.items;
  written : WritesAll g.K.Sink.held g.K.Sink.faults l.fn.sink l.sink (picture_bytes l.doc 0 0 0 l.doc.width l.y);
}

abbrev pub decreases-loop-y : goal.decreases-loop-y
decreases-loop-y g l = l.doc.height - l.y
