-- The report is that of the document that was read.
use Rattle.std.proofs.Common.{refl, sym, ◌∙◌}
use Rattle.xl_outcome.proofs.Reported.{wrote_part, wrote_all}
use Rattle.xl_commands.proofs.describing.describe.Goals as goal

pub returns-then-is_err-clause-comes : goal.returns-then-is_err-clause-comes
returns-then-is_err-clause-comes g c = λ given. (
  c.as_bytes.result.now,
  (
    record {
      document = c.in_ok-document.document;
      held = c.in_ok-document.ensures.loads;
      within = c.in_ok-document.ensures.limits;
      same = c.as_bytes.ensures.value ∙ c.in-Ok.ensures;
    },
    c.in_ok-document.ensures.untouched,
    tt,
  ),
  wrote_part g.K.Sink.held g.K.Sink.faults c.args.sink.now c.write_all.new.sink c.as_bytes.result.now c.write_all.result
      (sym c.is_err.ensures.value ∙ c.if-is_err.true) c.write_all.ensures,
)

pub returns-clause-comes : goal.returns-clause-comes
returns-clause-comes g c = λ given. (
  c.as_bytes.result.now,
  (
    record {
      document = c.in_ok-document.document;
      held = c.in_ok-document.ensures.loads;
      within = c.in_ok-document.ensures.limits;
      same = c.as_bytes.ensures.value ∙ c.in-Ok.ensures;
    },
    c.in_ok-document.ensures.untouched,
    refl,
  ),
  wrote_all g.K.Sink.held g.K.Sink.faults c.args.sink.now c.write_all.new.sink c.as_bytes.result.now c.write_all.result
      (sym c.is_err.ensures.value ∙ c.if-is_err.false) c.write_all.ensures,
)
