use Rattle.std.proofs.Common.{ap, subst, sym}
use Rattle.spec_document.specs.Plane.{Plane}
use Rattle.xl_tiles.specs.Written.{IsWithin}
use Rattle.picture_rows.proofs.planes.other_than_written.Goals as goal

pub fill-requires-clause-within : goal.fill-requires-clause-within
fill-requires-clause-within c =
    let P : Plane → Type 0 = λ p. IsWithin p.width p.height c.args.rect in subst P (sym c.in_ok-filled.ensures) c.requires

pub fill-requires-clause-bpp : goal.fill-requires-clause-bpp
fill-requires-clause-bpp c = ap (λ (p : Plane). p.bpp) c.in_ok-filled.ensures
