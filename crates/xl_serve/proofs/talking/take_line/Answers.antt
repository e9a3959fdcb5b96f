use Rattle.std.proofs.Common.{ℕ, List, true, refl, sym, subst}
use Rattle.xl_lines.specs.Lines.{lines_left, IsNext}
use Rattle.xl_serve.proofs.Faulty.{answer_cause}
use Rattle.xl_serve.proofs.Talks.{way_ended, way_stopped, way_turned}
use Rattle.xl_serve.proofs.talking.take_line.Goals as goal

pub returns-in-Ok-true-clause-turned : goal.returns-in-Ok-true-clause-turned
returns-in-Ok-true-clause-turned g c = λ base filters left begun way.
    way_turned g.K.Sink.held g.K.Sink.faults base filters left begun _ _ _ _ _ way c.answer_line.result c.deref.result.now
    c.answer_line.new.out.items _ _
    (subst
    (λ (l : List ℕ). IsNext true l (lines_left c.args.lines.now (g.S.Source.left c.args.source.now))
    (lines_left c.next_line.new.lines (g.S.Source.left c.next_line.new.source)))
    (sym c.deref.ensures.value) (rw c.in-Ok-true.field-0-test at c.in-Ok-true.ensures.line))
    c.requires.ready.legal c.answer_line.ensures.goes_on.ready.legal c.answer_line.ensures.cut
    c.answer_line.ensures.answered c.answer_line.ensures.kept c.answer_line.ensures.end

pub returns-in-Ok-false-clause-turned : goal.returns-in-Ok-false-clause-turned
returns-in-Ok-false-clause-turned g c = λ base filters left begun way.
    way_ended g.K.Sink.held g.K.Sink.faults base filters left begun _ _ _ _ _ way c.args.server.now.core.history.entries
    c.next_line.new.line.items _ c.requires.ready.legal refl (rw c.in-Ok-false.field-0-test at c.in-Ok-false.ensures.line)

pub returns-in-Err-clause-turned : goal.returns-in-Err-clause-turned
returns-in-Err-clause-turned g c = λ base filters left begun way.
    way_stopped g.K.Sink.held g.K.Sink.faults base filters left begun _ _ _ _ _ way c.args.server.now.core.history.entries c.in-Err.end
    c.requires.ready.legal refl c.in-Err.ensures.none

pub returns-in-Ok-true-clause-cause : goal.returns-in-Ok-true-clause-cause
returns-in-Ok-true-clause-cause g c =
    answer_cause _ _ c.answer_line.result c.in-Ok-true.ensures.cause c.answer_line.ensures.end
