use Rattle.std.proofs.Common.{sym, ◌∙◌, ap, ◌≡◌}
use Rattle.std.proofs.lemmas.Bool.{ne_eqb}
use Rattle.std.specs.Prelude.{Some, None, slice_get}
use Rattle.std.specs.Option.{option_copied}
use Rattle.spec_damage.specs.Damage as damage
use Rattle.spec_damage.specs.Damage.{first_or}
use Rattle.xl_regions.specs.Pairs.{numbers}
use Rattle.xl_regions.proofs.Nodes.{stack_of-tree, first_none, first_known}
use Rattle.xl_regions.proofs.stacks.stack_of.Goals as goal

pub returns-in-None : goal.returns-in-None
returns-in-None c =
    let slice = c.as_slice.result.now in
    let at : None ≡ slice_get slice 0 = sym (ap option_copied c.in-None.is) ∙ c.first.ensures.value in
    sym (first_none slice at) ∙ (ap (λ xs. first_or 0 (numbers xs)) c.as_slice.ensures.ids
    ∙ (sym (stack_of-tree c.args.id.0 c.doc.inside.tree c.ancestors.result
    (ne_eqb c.args.id.0 0 c.if-id-eq0.false) c.ancestors.ensures)
    ∙ ap (λ d. damage.stack_of d.nodes c.args.id.0) c.doc.view_is))

pub returns-in-Some : goal.returns-in-Some
returns-in-Some c =
    let slice = c.as_slice.result.now in
    let at : Some c.in-Some.stack.now ≡ slice_get slice 0 = sym (ap option_copied c.in-Some.is) ∙ c.first.ensures.value in
    sym (first_known c.in-Some.stack.now slice at) ∙ (ap (λ xs. first_or 0 (numbers xs)) c.as_slice.ensures.ids
    ∙ (sym (stack_of-tree c.args.id.0 c.doc.inside.tree c.ancestors.result
    (ne_eqb c.args.id.0 0 c.if-id-eq0.false) c.ancestors.ensures)
    ∙ ap (λ d. damage.stack_of d.nodes c.args.id.0) c.doc.view_is))
