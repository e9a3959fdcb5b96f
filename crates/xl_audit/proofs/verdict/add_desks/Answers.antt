use Rattle.std.proofs.Common.{sym, ◌∙◌, arith}
use Rattle.xl_audit.proofs.Desks.{chests_padded, chests_whole}
use Rattle.xl_audit.proofs.verdict.add_desks.Goals as goal

pub loop-alloc-preserved : goal.loop-alloc-preserved
loop-alloc-preserved g c =
    chests_padded (λ b. (goal.PointFilter-dyn g b).state b.1) c.loop-alloc.desks.items c.push.new.self.items _ (omega arith)
    c.in_ok-push.ensures.items c.in_ok-desk_without.ensures ∙ c.loop-alloc.invariant

pub returns : goal.returns
returns g c =
    sym (chests_whole (λ b. (goal.PointFilter-dyn g b).state b.1) c.loop-alloc.desks.items (omega arith)) ∙ c.loop-alloc.invariant
