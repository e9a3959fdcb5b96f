-- The edit is the one that its variant means, at the next id.
use Rattle.std.proofs.Common.{rules, ◌≡◌, to_z, of_z, w32, sym, ◌∙◌, ap, subst}
use Rattle.spec_edit.specs.Edit as edits
use Rattle.xl_calls.specs.declared.edit.Edit.{Edit}
use Rattle.xl_paint.specs.Applied.{at}
use Rattle.spec_edit.specs.Edit.{IsEdit}
use Rattle.xl_calls.specs.Applicable.{HasNext}
use Rattle.xl_calls.specs.Edits.{edit_of}
use Rattle.xl_edit.proofs.Accepted.{any_made}
use Rattle.xl_edit.proofs.applying.make_node.Goals as goal

pub new_group-requires-clause-bytes : goal.new_group-requires-clause-bytes
new_group-requires-clause-bytes c = let P : Edit → Type 0 = λ e. IsEdit (edit_of e) in (subst P c.in-NewGroup.is c.requires.edit)

pub new_group-requires-clause-next : goal.new_group-requires-clause-next
new_group-requires-clause-next c =
    let P : Edit → Type 0 = λ e. HasNext c.args.doc.now c.args.next_id.now (edit_of e) in subst P c.in-NewGroup.is c.requires.next

pub returns-in-NewGroup : goal.returns-in-NewGroup
returns-in-NewGroup c = λ table. any_made _ _ table _ _ _ (ap edit_of c.in-NewGroup.is) (c.new_group.ensures table)

pub new_layer-requires-clause-width : goal.new_layer-requires-clause-width
new_layer-requires-clause-width c = let P : Edit → Type 0 = λ e. IsEdit (edit_of e) in (subst P c.in-NewLayer.is c.requires.edit).0

pub new_layer-requires-clause-height : goal.new_layer-requires-clause-height
new_layer-requires-clause-height c = let P : Edit → Type 0 = λ e. IsEdit (edit_of e) in (subst P c.in-NewLayer.is c.requires.edit).1

pub new_layer-requires-clause-bytes : goal.new_layer-requires-clause-bytes
new_layer-requires-clause-bytes c = let P : Edit → Type 0 = λ e. IsEdit (edit_of e) in (subst P c.in-NewLayer.is c.requires.edit).2

pub new_layer-requires-clause-next : goal.new_layer-requires-clause-next
new_layer-requires-clause-next c =
    let e = c.in-NewLayer in
    let x : to_z w32 (of_z w32 c.in-NewLayer.x) ≡ c.in-NewLayer.x = search rules in
    let y : to_z w32 (of_z w32 c.in-NewLayer.y) ≡ c.in-NewLayer.y = search rules in
    let is = ap edit_of e.is ∙ (λ i. edits.new_layer e.parent.0 e.place (sym x i) (sym y i) e.w e.h e.kind e.name) in
    subst (HasNext c.args.doc.now c.args.next_id.now) is c.requires.next

pub returns-in-NewLayer : goal.returns-in-NewLayer
returns-in-NewLayer c = λ table.
    let x : to_z w32 (of_z w32 c.in-NewLayer.x) ≡ c.in-NewLayer.x = search rules in
    let y : to_z w32 (of_z w32 c.in-NewLayer.y) ≡ c.in-NewLayer.y = search rules in
    let e = c.in-NewLayer in
    any_made (at c.args.doc.now c.args.next_id.now) (at c.new_layer.new.doc c.new_layer.new.next_id) table _ _ _
    (ap edit_of e.is ∙ (λ i. edits.new_layer e.parent.0 e.place (sym x i) (sym y i) e.w e.h e.kind e.name))
    (c.new_layer.ensures table)
