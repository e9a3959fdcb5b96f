-- The colours are those of the bytes.
use Rattle.std.proofs.Common.{◌≡◌, ℕ, List, refl, sym, ◌∙◌, ap, subst}
use Rattle.spec_document.specs.Document.{Document}
use Rattle.spec_edit.specs.Edit as edits
use Rattle.spec_edit.specs.Effect.{colours_from}
use Rattle.xl_edit.specs.Kept.{KeepsLimits}
use Rattle.xl_edit.proofs.Accepted.{limits_after, limits_set, not_refused}
use Rattle.xl_edit.proofs.canvas.set_colours.Goals as goal

pub invariant_of-doc : goal.invariant_of-doc
invariant_of-doc c =
    let d = c.args.doc.now in
    let fresh : c.in_ok-doc-inside.field-0 ≡ colours_from c.args.bytes.now = c.in_ok-doc-inside.ensures
    ∙ ap colours_from c.as_slice.ensures in
    let P : List (List ℕ) → Type 0 = λ colours. KeepsLimits d (record d { colours = colours }) in
    record {
      marks = c.doc.invariant.marks;
      limits =
          limits_set _ d (λ (x : Document). record x { colours = c.in_ok-doc-inside.field-0 }) c.doc.view_is c.doc.invariant.limits
          (subst P (sym fresh) (limits_after d (edits.set_colours c.args.bytes.now) c.requires refl
          (not_refused _ (sym c.in_ok-check_colours.was ∙ c.check_colours.ensures))));
    }
