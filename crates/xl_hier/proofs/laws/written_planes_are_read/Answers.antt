use Rattle.std.proofs.Common.{arith}
use Rattle.spec_hierarchy.proofs.Planes.{plane_is}
use Rattle.xl_hier.proofs.Held.{plane_stands}
use Rattle.xl_hier.proofs.laws.written_planes_are_read.Goals as goal

pub returns : goal.returns
returns g c = λ file bytes at compression p sized written has small.
    plane_is file at compression p
    (plane_stands g.C.PlaneCoder.fits compression p file at bytes written has (omega (arith, sized.width.1))
    (omega (arith, sized.height.1)) (omega (arith, sized.few)) sized.plane.full small)
