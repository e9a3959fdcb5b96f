use Rattle.std.proofs.Common.{arith}
use Rattle.xl_blend.proofs.Laid.{blended_by_weight, weight-is_byte}
use Rattle.xl_blend.proofs.pixels.blend_by.Goals as goal

pub returns : goal.returns
returns c =
    blended_by_weight c.args.mode c.args.below c.args.above c.of_bytes.result c.args.whole c.mean_by-r.result c.mean_by-g.result
    c.mean_by-b.result c.requires.whole
    (rw (
      c.from-red.ensures,
      c.blend.ensures,
      c.min-part.ensures,
      c.wide_of-lower.ensures,
      c.wide_of-upper.ensures,
    ) at c.mean_by-r.ensures.value)
    (rw (
      c.from-green.ensures,
      c.blend-2.ensures,
      c.min-part.ensures,
      c.wide_of-lower.ensures,
      c.wide_of-upper.ensures,
    ) at c.mean_by-g.ensures.value)
    (rw (
      c.from-blue.ensures,
      c.blend-3.ensures,
      c.min-part.ensures,
      c.wide_of-lower.ensures,
      c.wide_of-upper.ensures,
    ) at c.mean_by-b.ensures.value)
    (rw c.wide_of-lower.ensures at c.of_bytes.ensures)

pub mean_by-r-requires-clause-byte : goal.mean_by-r-requires-clause-byte
mean_by-r-requires-clause-byte c = weight-is_byte c.args.below c.args.above c.args.whole (omega arith) c.requires.whole

pub mean_by-g-requires-clause-byte : goal.mean_by-g-requires-clause-byte
mean_by-g-requires-clause-byte c = weight-is_byte c.args.below c.args.above c.args.whole (omega arith) c.requires.whole

pub mean_by-b-requires-clause-byte : goal.mean_by-b-requires-clause-byte
mean_by-b-requires-clause-byte c = weight-is_byte c.args.below c.args.above c.args.whole (omega arith) c.requires.whole
