use Rattle.std.proofs.Common.{◌*◌}
use Rattle.xl_tiles.specs.Area.{rect_of}
use Rattle.xl_tiles.specs.Repeated.{repeated}
use Rattle.xl_tiles.specs.Swapped.{Swapped}
use Rattle.xl_tiles.specs.Table.{plane_by}
use Rattle.xl_tiles.specs.Written.{written}
use Rattle.xl_tiles.proofs.filling.filled_table.Given as goal

-- the tiles so far are put into the table
abbrev pub invariant-loop-k : goal.invariant-loop-k
invariant-loop-k l =
    Swapped l.sheet.width l.sheet.height
    (written (plane_by l.sheet.width l.sheet.height l.sheet.bpp l.tiles) (rect_of l.area) (repeated (l.area.w * l.area.h) l.uniform.pixel.now)) l.range l.k l.tiles l.next
