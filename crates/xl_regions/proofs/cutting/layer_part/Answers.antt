use Rattle.std.proofs.Common.{sym, ◌∙◌, ap, subst}
use Rattle.spec_document.specs.Rect.{lies_on}
use Rattle.xl_grid.specs.Small.{IsSmall}
use Rattle.xl_regions.proofs.Small.{lies, own_small, placed_small}
use Rattle.xl_regions.proofs.cutting.layer_part.Goals as goal

pub shift-requires-clause-rect : goal.shift-requires-clause-rect
shift-requires-clause-rect c =
    let whole = c.layer_rect.result in
    own_small whole c.args.rect c.layer_rect.ensures.reach
    (lies whole.w whole.h c.args.rect (ap (λ r. lies_on r.w r.h c.args.rect) c.layer_rect.ensures.value ∙ c.requires))

pub returns-clause-small : goal.returns-clause-small
returns-clause-small c =
    let whole = c.layer_rect.result in
    let on = lies whole.w whole.h c.args.rect (ap (λ r. lies_on r.w r.h c.args.rect) c.layer_rect.ensures.value ∙ c.requires) in
    subst IsSmall (sym c.shift.ensures) (placed_small whole c.args.rect c.layer_rect.ensures.reach on)
