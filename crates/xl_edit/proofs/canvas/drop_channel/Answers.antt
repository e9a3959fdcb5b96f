-- The channel is there.
use Rattle.std.proofs.Common.{refl, sym, ◌∙◌}
use Rattle.std.specs.Prelude.{List, remove}
use Rattle.spec_document.specs.Document.{Channel}
use Rattle.spec_edit.specs.Edit as edits
use Rattle.xl_edit.proofs.Accepted.{limits_after, limits_of_channels, not_refused}
use Rattle.xl_edit.proofs.canvas.drop_channel.Goals as goal

pub invariant_of-doc : goal.invariant_of-doc
invariant_of-doc c =
    let d = c.args.doc.now in
    let index = c.args.index in
    record {
      marks = c.doc.invariant.marks;
      limits = limits_of_channels _ d (λ (channels : List Channel). remove channels index) _ c.doc.view_is c.doc.invariant.limits
          (limits_after d (edits.drop_channel index) tt refl
          (not_refused _ (sym c.in_ok-check_channel.was ∙ c.check_channel.ensures.value))) c.remove.ensures.others;
    }
