use Rattle.std.proofs.Common.{◌+◌, ◌*◌, ◌∙◌}
use Rattle.spec_document.specs.Over.{over}
use Rattle.xl_compose.specs.Laid.{pixel}
use Rattle.xl_compose.specs.Span.{place_by}
use Rattle.xl_compose.specs.Source.{at_place, sheet_pixel}
use Rattle.xl_compose.proofs.source.lay_rect.Goals as goal

pub returns-clause-each : goal.returns-clause-each
returns-clause-each g c = λ v k hv hk.
    let part = c.common-part.ensures in
    let across = c.args.meeting.across in
    let down = c.args.meeting.down in
    c.lay_rows.ensures.each v k hv hk
    ∙ (λ i. over c.args.laid.mode (pixel c.args.picture.now (v * c.args.band.w + k))
    (at_place (place_by across.skip (part.x i) (part.w i) k) (place_by down.skip (part.y i) (part.h i) v)
    (sheet_pixel c.args.laid.colours.now c.args.laid.opacity c.args.laid.layer.now)))

pub returns-clause-cost : goal.returns-clause-cost
returns-clause-cost g c =
    let part = c.common-part.ensures in
    c.lay_rows.ensures.cost ∙ (λ i. c.args.steps.now + part.h i * part.w i)
