use Rattle.std.proofs.Common.{◌+◌, subst, sym, arith}
use Rattle.xl_printed.proofs.Lining.{IsLinesLeft, lines_none, lines_more}
use Rattle.xl_printed.proofs.lines.read_lines.Goals as goal

pub returns-in_default : goal.returns-in_default
returns-in_default c = lines_none _ _ c.loop-index.index _ _ _ c.loop-index.invariant (omega arith) c.in_default.ensures

pub loop-index-preserved : goal.loop-index-preserved
loop-index-preserved c =
    subst (IsLinesLeft c.args.session c.args.count (c.loop-index.index + 1) c.args.text.now c.in-Some.after.now)
    (sym c.in_ok-push.ensures.ok)
    (lines_more _ _ c.loop-index.index _ _ _ _ _ c.loop-index.invariant (omega arith) c.in-Some.ensures)
