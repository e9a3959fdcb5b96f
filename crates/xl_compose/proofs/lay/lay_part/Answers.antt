use Rattle.std.proofs.Common.{◌+◌, ◌-◌, length, arith}
use Rattle.xl_compose.proofs.Parts.{laid_part}
use Rattle.xl_compose.proofs.lay.lay_part.Goals as goal

pub returns-clause-laid : goal.returns-clause-laid
returns-clause-laid g c = laid_part c.args.mode c.args.row.now c.args.above.now c.over_row.new.below c.args.skip
    (c.args.skip + length c.args.above.now - c.args.skip) (omega arith) (omega arith) c.over_row.ensures.each
