use Rattle.std.proofs.Common.{◌≡◌, ◌∙◌, length, ap}
use Rattle.std.proofs.lemmas.Result.{IfOk-weaker}
use Rattle.spec_document.specs.Rect.{part_above_0}
use Rattle.spec_document.specs.Greys.{pixels_of_base}
use Rattle.spec_document.proofs.Greys.{pixels_length}
use Rattle.spec_layout.specs.Layout.{plane_over}
use Rattle.xl_write.proofs.group.group_plane.Goals as goal

pub plane_over-requires-clause-full : goal.plane_over-requires-clause-full
plane_over-requires-clause-full g c =
    let r = c.args.rect in
    ap (λ rgba. length (pixels_of_base c.doc.inside.base rgba)) c.in_ok-rgba.ensures
    ∙ pixels_length c.doc.inside.base c.args.doc.now c.args.id.0 (part_above_0 r.x) (part_above_0 r.y) r.w r.h

pub returns : goal.returns
returns g c =
    let is : c.doc.inside.base ≡ c.args.doc.now.base = ap (λ d. d.base) c.doc.view_is in
    IfOk-weaker c.plane_over.result _ _ (λ p h. h ∙ (λ i. plane_over (is i) c.args.rect (c.in_ok-rgba.ensures i))) c.plane_over.ensures
