use Rattle.std.proofs.Common.{refl}
use Rattle.std.specs.Prelude.{None}
use Rattle.spec_document.specs.Document.{Document}
use Rattle.spec_edit.specs.Edit as edits
use Rattle.xl_edit.proofs.Accepted.{limits_after, limits_set}
use Rattle.xl_edit.proofs.canvas.select_none.Goals as goal

pub invariant_of-doc : goal.invariant_of-doc
invariant_of-doc c =
    let d = c.args.doc.now in
    record {
      marks = c.doc.invariant.marks;
      limits = limits_set _ d (λ (x : Document). record x { selection = None }) c.doc.view_is c.doc.invariant.limits
          (limits_after d edits.select_none tt refl refl);
    }
