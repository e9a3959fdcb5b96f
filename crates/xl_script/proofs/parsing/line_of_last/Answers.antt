use Rattle.std.proofs.Common.{arith, length-take}
use Rattle.xl_script.proofs.parsing.line_of_last.Goals as goal

pub slice_bounds-newlines-end : goal.slice_bounds-newlines-end
slice_bounds-newlines-end c = omega (arith, length-take 16777216 c.args.text.now)

pub overflow_cast-result : goal.overflow_cast-result
overflow_cast-result c = omega (arith, c.newlines.ensures.bound, length-take 16777216 c.args.text.now)

pub overflow_add-result : goal.overflow_add-result
overflow_add-result c = omega (arith, c.newlines.ensures.bound, length-take 16777216 c.args.text.now)
