use Rattle.std.proofs.Common.{◌≡◌, ◌+◌, ◌-◌, ◌*◌, ◌≤◌, length}
use Rattle.xl_compose.specs.Source.{sheet_pixel}
use Rattle.xl_compose.proofs.BandRows.{AreLaidTo}
use Rattle.xl_compose.proofs.source.lay_columns.Given as goal

-- the columns so far are laid
abbrev pub invariant-loop-done : goal.invariant-loop-done
invariant-loop-done g l = record {
  few : l.done ≤ l.fn.meeting.across.count;
  size : length l.picture ≡ length l.fn.picture;
  cost : l.steps ≡ l.fn.steps + l.fn.meeting.down.count * l.done;
  laid : AreLaidTo l.fn.laid.mode l.fn.meeting.across.skip l.fn.meeting.across.from l.done l.fn.meeting.down.skip l.fn.meeting.down.from l.fn.meeting.down.count l.fn.band.w
      l.fn.band.h (sheet_pixel l.fn.laid.colours.now l.fn.laid.opacity l.fn.laid.layer.now) l.fn.picture l.picture;
}

abbrev pub decreases-loop-done : goal.decreases-loop-done
decreases-loop-done g l = l.fn.meeting.across.count - l.done
