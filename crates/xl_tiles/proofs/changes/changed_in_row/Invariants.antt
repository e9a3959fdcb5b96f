use Rattle.std.proofs.Common.{◌≡◌, ◌≤◌, length, map}
use Rattle.std.specs.Prelude.{filter}
use Rattle.spec_document.specs.Rect.{count_from}
use Rattle.spec_undo.specs.Planes.{differ_at}
use Rattle.xl_tiles.specs.Table.{plane_by, tile}
use Rattle.xl_tiles.proofs.changes.changed_in_row.Given as goal

-- the tiles so far are counted
abbrev pub invariant-loop-col : goal.invariant-loop-col
invariant-loop-col l = record {
  scratch : length l.scratch ≡ 32768;
  other_scratch : length l.other_scratch ≡ 32768;
  few : l.count ≤ l.col;
  counted : l.count ≡ length (filter
      (differ_at (plane_by l.fn.sheet.width l.fn.sheet.height l.fn.sheet.bpp l.tiles)
      (plane_by l.fn.sheet.width l.fn.sheet.height l.fn.sheet.bpp l.others))
      (map (λ col. tile col l.row) (count_from 0 l.col)));
}
