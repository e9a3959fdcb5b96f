use Rattle.xl_audit.proofs.Desks.{chests_of}
use Rattle.xl_audit.proofs.AtWord.{ComesAlong}
use Rattle.xl_audit.proofs.verdict.first_to_fail.Given as goal

abbrev pub invariant-loop-word : goal.invariant-loop-word
invariant-loop-word g l =
    ComesAlong l.fn.output l.fn.calls l.fn.walk (chests_of (λ b. (goal.PointFilter-dyn g b).state b.1) l.fn.desks.items) l.word-index l.walk
    (chests_of (λ b. (goal.PointFilter-dyn g b).state b.1) l.desks.items)
