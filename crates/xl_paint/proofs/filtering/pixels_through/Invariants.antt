use Rattle.xl_paint.proofs.FilteredRows.{AreThrough}
use Rattle.xl_paint.proofs.filtering.pixels_through.Given as goal

-- the pixels so far went through the table
abbrev pub invariant-loop-k : goal.invariant-loop-k
invariant-loop-k l = AreThrough l.table l.k l.bpp l.colours l.initial.bytes l.bytes
