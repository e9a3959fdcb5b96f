use Rattle.std.proofs.Common.{refl, sym, subst, ap, ◌∙◌}
use Rattle.std.proofs.lemmas.Result.{IfOk-from_err}
use Rattle.std.specs.List.{AllByRecursion}
use Rattle.spec_generated.specs.Draws.{times}
use Rattle.spec_generated.specs.Generated.{document_with, look}
use Rattle.xl_script.specs.Lines.{lists_of}
use Rattle.xl_report.specs.Looks.{IsLook}
use Rattle.xl_report.proofs.Chains.{document_is, script_is}
use Rattle.xl_report.proofs.Repeats.{same_drawn}
use Rattle.xl_report.proofs.made.make.Goals as goal

pub returns-clause-document : goal.returns-clause-document
returns-clause-document c =
    let looks = c.in_ok-looks.looks.items in
    let first = same_drawn (times 8 look) c.new-draws.result c.args.seed c.looks.new.draws looks looks
    (sym c.new-draws.ensures) refl c.in_ok-looks.ensures.drawn in
    c.in_ok-document.ensures
    ∙ (ap document_with c.as_slice.ensures.value
    ∙ document_is c.args.seed c.looks.new.draws c.script.new.draws looks
    (lists_of c.in_ok-script.script) first c.in_ok-script.ensures)

pub returns-clause-script : goal.returns-clause-script
returns-clause-script c =
    let looks = c.in_ok-looks.looks.items in
    let first = same_drawn (times 8 look) c.new-draws.result c.args.seed c.looks.new.draws looks looks
    (sym c.new-draws.ensures) refl c.in_ok-looks.ensures.drawn in
    script_is c.args.seed c.looks.new.draws c.script.new.draws looks (lists_of c.in_ok-script.script) first c.in_ok-script.ensures

pub document_with-requires-clause-looks : goal.document_with-requires-clause-looks
document_with-requires-clause-looks c = subst (AllByRecursion IsLook) (sym c.as_slice.ensures.value) c.in_ok-looks.ensures.each

pub returns-in_err-document-clause-document : goal.returns-in_err-document-clause-document
returns-in_err-document-clause-document c =
    IfOk-from_err c.from_residual-in_err-document.result _ c.from_residual-in_err-document.ensures.0

pub returns-in_err-document-clause-script : goal.returns-in_err-document-clause-script
returns-in_err-document-clause-script c =
    IfOk-from_err c.from_residual-in_err-document.result _ c.from_residual-in_err-document.ensures.0
