use Rattle.std.proofs.Common.{◌+◌, ◌-◌, arith}
use Rattle.xl_compose.proofs.LevelScratch.{next_here}
use Rattle.xl_compose.proofs.laying.lay_next.Goals as goal

pub returns-clause-here : goal.returns-clause-here
returns-clause-here g c =
    next_here c.args.mode c.args.opacity c.args.at c.args.n
    (c.args.at + c.args.n + c.args.n - (c.args.at + c.args.n)) c.args.scratch.now c.copy_from_slice.new.self c.fade_row.new.row
    c.lay_part.new.row (omega arith) c.requires.scratch c.copy_from_slice.ensures.after c.fade_row.ensures c.lay_part.ensures.laid
