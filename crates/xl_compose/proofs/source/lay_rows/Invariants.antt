use Rattle.std.proofs.Common.{◌≡◌, ◌+◌, ◌*◌, length}
use Rattle.spec_document.specs.Rect.{part_above_0}
use Rattle.xl_compose.specs.Source.{sheet_pixel}
use Rattle.xl_compose.proofs.BandRows.{AreLaidTo}
use Rattle.xl_compose.proofs.source.lay_rows.Given as goal

-- the rows so far are laid
abbrev pub invariant-loop-r : goal.invariant-loop-r
invariant-loop-r g l = record {
  row : length l.row ≡ l.fn.patch.part.w;
  cost : l.steps ≡ l.fn.steps + l.r * l.fn.patch.part.w;
  laid : AreLaidTo l.fn.laid.mode l.fn.patch.left (part_above_0 l.fn.patch.part.x) l.fn.patch.part.w l.fn.patch.top
      (part_above_0 l.fn.patch.part.y) l.r l.fn.band.w l.fn.band.h (sheet_pixel l.fn.laid.colours.now l.fn.laid.opacity l.fn.laid.layer.now) l.fn.picture l.picture;
}
