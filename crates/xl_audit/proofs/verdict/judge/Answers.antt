use Rattle.std.proofs.Common.{◌∙◌}
use Rattle.std.proofs.lemmas.Result.{IfOk-weaker}
use Rattle.xl_script.specs.Lines.{lists_of}
use Rattle.xl_audit.proofs.Desks.{first_chests, few_chests}
use Rattle.xl_audit.proofs.AtWord.{begun_first}
use Rattle.xl_audit.proofs.verdict.judge.Goals as goal

pub first_to_fail-requires : goal.first_to_fail-requires
first_to_fail-requires g c = (
  _,
  begun_first c.args.base (lists_of c.args.script.now) _ (first_chests (λ x. (goal.PointFilter-dyn g x).state x.1) c.args.chests.items)
      _ _ _ (few_chests (λ x. (goal.PointFilter-dyn g x).state x.1) c.args.chests.items c.requires.few) c.requires.full c.requires.fits
      c.requires.merge c.requires.prints c.in_ok-desks.ensures c.in_ok-walk.ensures.come (c.as_slice-calls.ensures.value ∙ c.in_ok-calls.ensures)
      c.in_ok-walk.ensures.wanted,
)

pub returns : goal.returns
returns g c =
    IfOk-weaker c.first_to_fail.result _ _ (λ found is.
    is _
    (begun_first c.args.base (lists_of c.args.script.now) _ (first_chests (λ x. (goal.PointFilter-dyn g x).state x.1) c.args.chests.items)
    _ _ _ (few_chests (λ x. (goal.PointFilter-dyn g x).state x.1) c.args.chests.items c.requires.few) c.requires.full c.requires.fits
    c.requires.merge c.requires.prints c.in_ok-desks.ensures c.in_ok-walk.ensures.come (c.as_slice-calls.ensures.value ∙ c.in_ok-calls.ensures)
    c.in_ok-walk.ensures.wanted))
    c.first_to_fail.ensures
