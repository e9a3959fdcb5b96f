-- The name is the one that is copied.
use Rattle.std.proofs.Common.{rules, ◌≡◌, ℕ, List, None, refl, sym, subst}
use Rattle.spec_edit.specs.Edit as edits
use Rattle.spec_edit.specs.Refusal.{refusal}
use Rattle.xl_edit.specs.Fields.{with_field}
use Rattle.xl_edit.specs.declared.fields.Field.TheVariants as fields
use Rattle.xl_edit.specs.Kept.{KeepsLimits}
use Rattle.xl_edit.proofs.Accepted.{limits_after}
use Rattle.xl_edit.proofs.fields.rename.Goals as goal

pub set_field-requires-clause-limits : goal.set_field-requires-clause-limits
set_field-requires-clause-limits c =
    let d = c.args.doc.now in
    let id = c.args.id.0 in
    let allowed : refusal d (edits.rename id c.args.name.now) ≡ None = search rules in
    let P : List ℕ → Type 0 = λ name. KeepsLimits d (record d { nodes = with_field (fields.Name name) id d.nodes }) in
    subst P (sym c.in_ok-own.ensures) (limits_after d (edits.rename id c.args.name.now) c.requires refl allowed)
