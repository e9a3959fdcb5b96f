use Rattle.std.proofs.Common.{refl, sym, ◌∙◌}
use Rattle.xl_outcome.specs.Flattening.{flattened_line}
use Rattle.xl_outcome.proofs.FirstSaves.{ok_at, err_at}
use Rattle.xl_outcome.proofs.Reported.{wrote_part, wrote_all}
use Rattle.xl_commands.proofs.flattening.save_flat.Goals as goal

pub returns-then-is_err-clause-saved : goal.returns-then-is_err-clause-saved
returns-then-is_err-clause-saved g c = λ d wrote. (
  err_at c.save_file.result (sym c.is_err.ensures.value ∙ c.if-is_err.true) c.save_file.ensures.failed d wrote,
  refl,
)

pub returns-then-is_err-2-clause-saved : goal.returns-then-is_err-2-clause-saved
returns-then-is_err-2-clause-saved g c = λ d wrote. (
  ok_at c.save_file.result (sym c.is_err.ensures.value ∙ c.if-is_err.false) c.save_file.ensures.saved d wrote,
  wrote_part g.K.Sink.held g.K.Sink.faults c.args.sink.now c.write_all.new.sink flattened_line c.write_all.result
      (sym c.is_err-2.ensures.value ∙ c.if-is_err-2.true) c.write_all.ensures,
)

pub returns-clause-saved : goal.returns-clause-saved
returns-clause-saved g c = λ d wrote. (
  ok_at c.save_file.result (sym c.is_err.ensures.value ∙ c.if-is_err.false) c.save_file.ensures.saved d wrote,
  wrote_all g.K.Sink.held g.K.Sink.faults c.args.sink.now c.write_all.new.sink flattened_line c.write_all.result
      (sym c.is_err-2.ensures.value ∙ c.if-is_err-2.false) c.write_all.ensures,
)
