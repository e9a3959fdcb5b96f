use Rattle.std.proofs.Common.{List, subst}
use Rattle.std.specs.Prelude.{IfOk}
use Rattle.spec_audit.specs.Verdicts.{IsExact}
use Rattle.spec_filters.specs.declared.FilterState.{FilterState}
use Rattle.xl_script.specs.Lines.{lists_of}
use Rattle.xl_audit.proofs.Chests.{are_full, few_boxes, full_fit, full_in}
use Rattle.xl_audit.proofs.judging.find_verdict.Goals as goal

pub audit_on-requires-clause-few : goal.audit_on-requires-clause-few
audit_on-requires-clause-few g c = few_boxes _ _ _ _ c.in_ok-chests.ensures c.requires.few

pub audit_on-requires-clause-full : goal.audit_on-requires-clause-full
audit_on-requires-clause-full g c = are_full _ _ c.in_ok-chests.ensures

pub audit_on-requires-clause-fits : goal.audit_on-requires-clause-fits
audit_on-requires-clause-fits g c = full_fit _ _ _ c.in_ok-chests.ensures c.requires.fits

pub returns : goal.returns
returns g c =
    subst
    (λ (filters : List (List FilterState)). IfOk c.audit_on.result
    (IsExact (record { base = c.args.document; scripts = lists_of c.args.given.now.script; chests = filters })
    c.args.given.now.output.items))
    (full_in _ _ c.in_ok-chests.ensures) c.audit_on.ensures
