-- The document has another layer in the place of the one that is kept, and the same stacks.
use Rattle.std.proofs.Common.{◌≡◌, [], ◌∷◌, sym, ◌∙◌, ap, subst}
use Rattle.std.specs.Prelude.{Ok}
use Rattle.spec_edit.specs.Apply.{apply_group}
use Rattle.spec_standing.specs.Change.{change_between}
use Rattle.spec_standing.specs.Group.{damage_along}
use Rattle.xl_calls.specs.Edits.{edit_of}
use Rattle.xl_edit.specs.Applied.{at}
use Rattle.xl_undo.specs.Layers.{LayerIn, ChangesLayer}
use Rattle.xl_standing.proofs.Alone.{damage_alone}
use Rattle.xl_standing.proofs.SameStacks.{none_between}
use Rattle.xl_standing.proofs.painting.paint.Goals as goal

pub of_paint-requires-clause-paints : goal.of_paint-requires-clause-paints
of_paint-requires-clause-paints c = (c.args.id.0, c.requires.may.paints)

pub over_layer-lead-requires : goal.over_layer-lead-requires
over_layer-lead-requires c =
    let changes = c.requires.may.paints.changes c.args.document.now c.args.next_id [] in
    subst (λ (k : LayerIn). ChangesLayer k.id k.document c.apply_plain.new.document) (sym c.in_ok-before.ensures) (
      changes.0,
      c.in_ok-apply_plain.ensures.made ∙ changes.1,
    )

pub returns-clause-made : goal.returns-clause-made
returns-clause-made c =
    let old = c.args.document.now in
    let new = c.apply_plain.new.document in
    let edit = edit_of c.args.edit.now in
    let here = at old c.args.next_id in
    let changes = c.requires.may.paints.changes old c.args.next_id [] in
    record {
      applied = subst (λ ts. apply_group here (edit ∷ []) ts ≡ Ok (at new c.args.next_id)) (sym c.new.ensures)
          c.in_ok-apply_plain.ensures.applied;
      back = c.over_layer-lead.ensures
          ∙ (λ i. record { from = new; to = (ap (λ (k : LayerIn). k.document) c.in_ok-before.ensures) i });
      marks = c.in_ok-change.ensures
          ∙ (sym (none_between old new c.args.id.0 changes.0 c.in_ok-damage.damage (c.in_ok-apply_plain.ensures.made ∙ changes.1))
          ∙ (ap (change_between old new) (c.in_ok-damage.ensures ∙ sym (damage_alone here edit))
          ∙ ap (λ ts. change_between old new (damage_along here (edit ∷ []) ts)) (sym c.new.ensures)));
    }
