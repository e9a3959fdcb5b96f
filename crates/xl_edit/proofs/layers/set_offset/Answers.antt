-- The place is near the canvas.
use Rattle.std.proofs.Common.{rules, ◌≡◌, None, to_z, of_z, w32, refl, sym, subst}
use Rattle.std.specs.Prelude.{ℤ}
use Rattle.spec_document.specs.Changes.{with_leaf}
use Rattle.spec_document.specs.Document.{Layer}
use Rattle.spec_edit.specs.Edit as edits
use Rattle.spec_edit.specs.Refusal.{refusal}
use Rattle.xl_edit.specs.Kept.{KeepsLimits}
use Rattle.xl_edit.proofs.Accepted.{limits_after}
use Rattle.xl_edit.proofs.layers.set_offset.Goals as goal

pub change_layer-requires-clause-limits : goal.change_layer-requires-clause-limits
change_layer-requires-clause-limits c =
    let d = c.args.doc.now in
    let id = c.args.id.0 in
    let allowed : refusal d (edits.set_offset c.args.id.0 c.args.x c.args.y) ≡ None = search rules in
    let x : to_z w32 (of_z w32 c.args.x) ≡ c.args.x = search rules in
    let y : to_z w32 (of_z w32 c.args.y) ≡ c.args.y = search rules in
    let P : ℤ → ℤ → Type 0 = λ left top.
    KeepsLimits d (record d { nodes = with_leaf id (λ (l : Layer). record l { x = left; y = top }) d.nodes }) in
    let P-top : ℤ → Type 0 = λ top. P c.args.x top in
    let P-left : ℤ → Type 0 = λ left. P left (to_z w32 (of_z w32 c.args.y)) in
    subst P-left (sym x) (subst P-top (sym y) (limits_after d (edits.set_offset c.args.id.0 c.args.x c.args.y) tt refl allowed))
