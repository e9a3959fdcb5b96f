use Rattle.std.proofs.Common.{◌≡◌, length, subst, arith}
use Rattle.std.proofs.lemmas.Result.{on_ok_weaker}
use Rattle.spec_hierarchy.specs.Layout.{IsWrittenPlane}
use Rattle.xl_hier.proofs.Whole.{stands}
use Rattle.xl_hier.proofs.writing.write_hierarchy.Goals as goal

pub returns-clause-held : goal.returns-clause-held
returns-clause-held g c =
    let p = c.args.plane.now in
    let at : c.len.result ≡ length c.args.out.now.items = omega (arith, c.len.ensures, c.args.out.now.ok.0) in
    let plane = subst (λ n. IsWrittenPlane g.C.PlaneCoder.fits c.args.compression n p c.in_ok-bytes.bytes) at
    c.in_ok-bytes.ensures.written in
    on_ok_weaker c.append_to.result (λ is. stands g.C.PlaneCoder.fits c.args.compression p c.args.out.now.items
    c.append_to.new.out.items c.width-width.ensures.sized (omega (arith, c.requires.short, c.args.out.now.ok.0))
    (record { bytes = c.in_ok-bytes.bytes; plane = plane; appended = is })) c.append_to.ensures.ok
