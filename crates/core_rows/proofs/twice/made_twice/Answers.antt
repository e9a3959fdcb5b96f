use Rattle.std.proofs.Common.{sym, subst}
use Rattle.spec_document.specs.Document.{Document}
use Rattle.xl_doc.specs.Numbered.{AreNumbered}
use Rattle.xl_report.proofs.MadeNumbered.{made_is_numbered}
use Rattle.core_rows.proofs.twice.made_twice.Goals as goal

pub core_over-requires-after_bounds : goal.core_over-requires-after_bounds
core_over-requires-after_bounds c κs =
    subst (λ (d : Document). AreNumbered d.nodes) (sym c.in_ok-made.ensures.document) (made_is_numbered c.args.seed)
