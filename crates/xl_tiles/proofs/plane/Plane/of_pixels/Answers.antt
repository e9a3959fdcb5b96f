use Rattle.std.proofs.Common.{ap, ◌∙◌}
use Rattle.spec_document.specs.Rect.{sheet}
use Rattle.spec_document.specs.Plane.{plane_of}
use Rattle.xl_tiles.specs.Written.{written}
use Rattle.xl_tiles.proofs.WholePlane.{written_whole}
use Rattle.xl_tiles.proofs.plane.Plane.of_pixels.Goals as goal

pub returns : goal.returns
returns c =
    c.in_ok-write_rect.ensures.ok
    ∙ (ap (λ p. written p (sheet c.args.w c.args.h) c.args.bytes.now) c.in_ok-plane.ensures
    ∙ written_whole (plane_of c.args.w c.args.h c.args.bpp _) c.args.bytes.now c.requires.full)
