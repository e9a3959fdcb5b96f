use Rattle.std.proofs.Common.{◌∙◌, sym}
use Rattle.xl_grid.proofs.AddedTiles.{column_in, column_out}
use Rattle.xl_grid.proofs.covering.add_row.Goals as goal
use Rattle.xl_grid.proofs.covering.add_row.Goals.{then-do_meet+in_ok-push, else-do_meet}

pub loop-col-preserved : goal.loop-col-preserved
loop-col-preserved c = elim c.if-do_meet.branch [
  | then-do_meet+in_ok-push w ↦
      rw (w.list-is, w.in_ok-push.ensures.items)
      (column_in c.args.rect c.args.w c.args.h c.args.row c.loop-col.col c.args.list.now.items c.loop-col.list.items
      c.loop-col.invariant (sym c.do_meet.ensures ∙ w.if-do_meet.true))
  | else-do_meet w ↦
      rw w.list-is (column_out c.args.rect c.args.w c.args.h c.args.row c.loop-col.col c.args.list.now.items c.loop-col.list.items
      c.loop-col.invariant (sym c.do_meet.ensures ∙ w.if-do_meet.false))
]
