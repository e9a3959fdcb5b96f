use Rattle.std.proofs.Common.{arith}
use Rattle.xl_paint.proofs.FilteredRows.{none_through, pixel_through}
use Rattle.xl_paint.proofs.Weights.{pixel_fits}
use Rattle.xl_paint.proofs.filtering.pixels_through.Goals as goal

pub loop-k-init : goal.loop-k-init
loop-k-init c = none_through c.args.table.now c.args.bpp c.args.colours c.args.bytes.now

pub part_through-requires-clause-fits : goal.part_through-requires-clause-fits
part_through-requires-clause-fits c =
    omega (
      arith,
      c.requires.whole,
      c.requires.few,
      c.loop-k.invariant.size,
      pixel_fits c.loop-k.k c.args.count c.args.bpp (omega arith),
    )

pub loop-k-preserved : goal.loop-k-preserved
loop-k-preserved c =
    pixel_through c.args.table.now c.loop-k.k c.args.bpp c.args.colours c.args.bytes.now c.loop-k.bytes c.part_through.new.bytes
    c.requires.few c.loop-k.invariant
    c.part_through.ensures.size c.part_through.ensures.each
