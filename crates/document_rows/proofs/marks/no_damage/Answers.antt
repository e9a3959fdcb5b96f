use Rattle.std.proofs.Common.{◌<◌, [], sym, ◌∙◌, ap, subst}
use Rattle.std.specs.Prelude.{None}
use Rattle.std.specs.List.{AllByRecursion}
use Rattle.spec_document.specs.Document.{Document}
use Rattle.spec_document.specs.Forest.{ids}
use Rattle.document_rows.proofs.marks.no_damage.Goals as goal

pub add-requires-clause-above : goal.add-requires-clause-above
add-requires-clause-above c = subst (λ d. AllByRecursion (λ id. id < 1) (ids d.nodes)) (sym c.requires) tt

pub add-requires-clause-made : goal.add-requires-clause-made
add-requires-clause-made c =
    let bare : Document → Document = λ d. record d { selection = None } in
    ([], c.requires ∙ sym (ap bare c.requires))
