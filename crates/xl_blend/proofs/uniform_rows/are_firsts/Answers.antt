use Rattle.std.proofs.Common.{Bool, true, false, arith}
use Rattle.std.specs.Bool.{OnFalse}
use Rattle.xl_blend.proofs.uniform_rows.are_firsts.Goals as goal

-- what is not, where less is not
so_not : (test : Bool) {P Q : Type 0} → (Q → P) → OnFalse test (¬ P) → OnFalse test (¬ Q)
so_not true so not = tt
so_not false so not = λ q. not (so q)

pub returns-clause-one_is_not : goal.returns-clause-one_is_not
returns-clause-one_is_not c =
    so_not c.loop-i.same (λ all k past within. all k past (omega arith)) c.loop-i.invariant.one_is_not
