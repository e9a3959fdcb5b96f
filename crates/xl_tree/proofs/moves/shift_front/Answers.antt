use Rattle.std.proofs.Common.{ℕ, ◌+◌, get_or, sym, ◌∙◌, ap, arith}
use Rattle.xl_tree.specs.declared.entries.NodeEntry.{NodeEntry}
use Rattle.xl_tree.specs.Moves.{shifted}
use Rattle.xl_tree.proofs.Shifted.{shift_more, shift_fits}
use Rattle.xl_tree.proofs.moves.shift_front.Goals as goal

pub overflow_add-entry : goal.overflow_add-entry
overflow_add-entry g c =
    let fits = shift_fits c.args.from c.args.to c.loop-at.at c.args.count c.args.run.now c.loop-at.run c.index-run-at.result
    c.loop-at-test.true c.requires.within c.requires.shallow c.loop-at.invariant c.index-run-at.is in
    omega (arith, fits, c.requires.low, c.saturating_sub.ensures, ap (λ x. x.level) c.index-run-at.is)

pub loop-at-preserved : goal.loop-at-preserved
loop-at-preserved g c =
    let y = get_or c.loop-at.run c.loop-at.at c.index-run-at.result in
    let made : ℕ → NodeEntry _ = λ k. record { id = y.id; level = k + c.args.to; group = y.group; node = y.node } in
    shift_more c.args.from c.args.to c.loop-at.at c.args.run.now c.loop-at.run c.index-run-at.result _
    (omega arith) c.loop-at.invariant c.index-run-at.is
    (ap made c.saturating_sub.ensures ∙ ap (shifted c.args.from c.args.to) (sym c.index-run-at.is))
