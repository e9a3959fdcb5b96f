use Rattle.std.proofs.Common.{sym, ◌∙◌}
use Rattle.std.proofs.lemmas.List.{take_rest}
use Rattle.xl_tree.proofs.Search.{from_id_more, from_id_stop, from_id_end}
use Rattle.xl_tree.proofs.entries.from_id.Goals as goal

pub returns-then-entry-id : goal.returns-then-entry-id
returns-then-entry-id g c =
    take_rest c.args.entries.now c.loop-at.at
    ∙ sym (c.loop-at.invariant ∙ from_id_stop c.args.id c.args.entries.now c.loop-at.at _ c.loop-at-test.true c.index-entries-at.is
    (sym c.if-entry-id.true))

pub loop-at-preserved : goal.loop-at-preserved
loop-at-preserved g c =
    c.loop-at.invariant ∙ from_id_more c.args.id c.args.entries.now c.loop-at.at _ c.loop-at-test.true c.index-entries-at.is
    (λ e. c.if-entry-id.false (sym e))

pub returns : goal.returns
returns g c = sym (c.loop-at.invariant ∙ from_id_end c.args.id c.args.entries.now c.loop-at.at c.loop-at-test.false)
