use Rattle.std.proofs.Common.{refl, sym, ◌∙◌, arith}
use Rattle.xl_fields.proofs.Behind.{begins_itself, begins_then, begins_appended}
use Rattle.xl_rle.proofs.GreedyCodes.{starts, goes_run, goes_literal, ends}
use Rattle.xl_rle.proofs.greedy.append_codes.Goals as goal

pub loop-at-init : goal.loop-at-init
loop-at-init c = record { coding = starts _ _; front = begins_itself _ _ refl }

pub loop-at-preserved-then-begins_run : goal.loop-at-preserved-then-begins_run
loop-at-preserved-then-begins_run c = record {
  coding = goes_run _ _ _ _ _ _ c.loop-at.invariant.coding (omega arith) (sym c.begins_run.ensures
      ∙ c.if-begins_run.true) c.run_length-count.ensures.value c.run_length-count.ensures.some c.run_length-count.ensures.within
      c.in_ok-push_run.ensures.ok;
  front = begins_then _ _ _ c.loop-at.invariant.front (begins_appended _ _ _ c.in_ok-push_run.ensures.ok);
}

pub loop-at-preserved : goal.loop-at-preserved
loop-at-preserved c = record {
  coding = goes_literal _ _ _ _ _ _ c.loop-at.invariant.coding (omega arith) (sym c.begins_run.ensures
      ∙ c.if-begins_run.false) c.literal_length-count.ensures.value c.literal_length-count.ensures.within
      c.in_ok-push_literal.ensures.ok;
  front = begins_then _ _ _ c.loop-at.invariant.front c.push_literal.ensures.front;
}

pub returns : goal.returns
returns c = record { whole = ends _ _ _ _ c.loop-at.invariant.coding (omega arith); front = c.loop-at.invariant.front }

pub returns-in_err-push_run-clause-front : goal.returns-in_err-push_run-clause-front
returns-in_err-push_run-clause-front c =
    begins_then _ _ _ c.loop-at.invariant.front (begins_itself _ _ c.in_err-push_run.ensures.err)

pub returns-in_err-push_literal-clause-front : goal.returns-in_err-push_literal-clause-front
returns-in_err-push_literal-clause-front c = begins_then _ _ _ c.loop-at.invariant.front c.push_literal.ensures.front
