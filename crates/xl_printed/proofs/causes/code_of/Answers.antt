use Rattle.std.proofs.Common.{refl, arith}
use Rattle.spec_audit.specs.Reading.{causes}
use Rattle.xl_printed.proofs.Looking.{cause_goes_on, cause_nowhere}
use Rattle.xl_printed.proofs.causes.code_of.Goals as goal

-- the code's table is the definition's
pub loop-code-init : goal.loop-code-init
unfolding causes
loop-code-init c = record { whole = refl; same = λ words. refl }

pub loop-code-preserved : goal.loop-code-preserved
loop-code-preserved c = cause_goes_on _ _ _ _ c.loop-code.invariant (omega arith) c.if-number-code.false

pub returns : goal.returns
returns c = cause_nowhere _ c.loop-code.code-index _ c.loop-code.invariant (omega arith)
