use Rattle.std.proofs.Common.{◌∙◌, sym, arith, rules}
use Rattle.xl_blend.proofs.SoFar.{so_far-none, so_far-piece, so_far-all}
use Rattle.xl_blend.proofs.rows.lay_row.Goals as goal

pub loop-at-init : goal.loop-at-init
loop-at-init c = record { done = so_far-none _ _ _; within = omega arith }

pub loop-at-preserved : goal.loop-at-preserved
loop-at-preserved c = record {
  done = so_far-piece _ _ _ _ _ _ _ (omega arith) (omega arith) (omega arith) c.lay.ensures ∙ c.loop-at.invariant.done;
  within = search rules;
}

pub returns : goal.returns
returns c = sym (so_far-all _ _ _ _ (omega arith)) ∙ c.loop-at.invariant.done
