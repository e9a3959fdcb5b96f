use Rattle.std.proofs.Common.{sym, ◌∙◌, ap, arith, cond, eqb, Some, None}
use Rattle.xl_tree.specs.Places.{first_some}
use Rattle.xl_tree.proofs.Indexed.{last_place}
use Rattle.xl_tree.proofs.index.Index.renew.Goals as goal

pub loop-at-preserved : goal.loop-at-preserved
loop-at-preserved g c = record {
  told = λ id. c.add.ensures.told id
      ∙ (ap (λ old. first_some old (cond (eqb id c.index-entries-at.result.id) (Some c.loop-at.at) None)) (c.loop-at.invariant.told id)
      ∙ sym (last_place id c.loop-at.at c.args.entries.now c.index-entries-at.result c.loop-at-test.true c.index-entries-at.is));
  ascending = c.add.ensures.ascending;
  room = omega arith;
  few = omega arith;
}
