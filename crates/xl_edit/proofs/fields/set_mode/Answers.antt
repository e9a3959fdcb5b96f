-- The mode is that of the code.
use Rattle.std.proofs.Common.{rules, ◌≡◌, None, refl, ap, subst}
use Rattle.std.specs.Prelude.{unwrap_or}
use Rattle.spec_document.specs.declared.Mode.{Mode}
use Rattle.spec_document.specs.declared.Mode.TheVariants.{Normal}
use Rattle.spec_edit.specs.Edit as edits
use Rattle.spec_edit.specs.Refusal.{refusal}
use Rattle.xl_edit.specs.Fields.{with_field}
use Rattle.xl_edit.specs.declared.fields.Field.TheVariants as fields
use Rattle.xl_edit.specs.Kept.{KeepsLimits}
use Rattle.xl_edit.proofs.Accepted.{limits_after}
use Rattle.xl_edit.proofs.fields.set_mode.Goals as goal

pub set_field-requires-clause-limits : goal.set_field-requires-clause-limits
set_field-requires-clause-limits c =
    let d = c.args.doc.now in
    let id = c.args.id.0 in
    let allowed : refusal d (edits.set_mode id c.args.mode) ≡ None = search rules in
    let P : Mode → Type 0 = λ m. KeepsLimits d (record d { nodes = with_field (fields.Blend m) id d.nodes }) in
    subst P (ap (λ o. unwrap_or o Normal) c.in_ok-mode.ensures.mode)
    (limits_after d (edits.set_mode id c.args.mode) tt refl allowed)
