use Rattle.std.proofs.Common.{sym, ◌∙◌}
use Rattle.xl_regions.proofs.Spread.{added_one}
use Rattle.xl_regions.proofs.stacks.add_region.Goals as goal

pub returns : goal.returns
returns c =
    added_one c.args.before.now c.args.after.now c.args.list.now.items c.push.new.self.items c.add_copies.new.list.items
    c.add_other_copies.new.list.items
    c.args.stack c.args.rect c.part_on_canvas-part.result c.in_ok-old.old.items c.in_ok-new.new.items
    c.part_on_canvas-part.ensures (sym c.is_empty.ensures ∙ c.if-is_empty.false)
    c.in_ok-old.ensures c.in_ok-new.ensures c.in_ok-push.ensures.items
    (rw c.as_slice.ensures.value at c.in_ok-add_copies.ensures)
    (rw (c.as_slice-2.ensures.value, c.as_slice-3.ensures.value) at c.in_ok-add_other_copies.ensures)
