use Rattle.std.proofs.Common.{true, refl, arith}
use Rattle.std.specs.Prelude.{Some}
use Rattle.std.proofs.lemmas.Result.{on_ok_weaker}
use Rattle.spec_document.specs.Document.{Channel}
use Rattle.xl_write.proofs.Bodies.{plane_end, mask_made}
use Rattle.xl_write.proofs.PlanesFollowed.{with_mask}
use Rattle.xl_write.proofs.pixels.put_masked.Goals as goal

pub put_mask-requires-clause-room : goal.put_mask-requires-clause-room
put_mask-requires-clause-room g c =
    omega (
      arith,
      plane_end g.C.PlaneCoder.fits c.args.compression c.args.plane.now true c.args.out.now c.put_plane.new.out c.requires.plane
          c.in_ok-put_plane.ensures.written,
      c.requires.room,
    )

pub returns-clause-written : goal.returns-clause-written
returns-clause-written g c =
    on_ok_weaker c.put_mask.result
    (mask_made g.C.PlaneCoder.fits c.args.compression c.args.plane.now c.args.mask.now c.args.out.now c.put_plane.new.out
    c.put_mask.new.out c.in_ok-put_plane.ensures.written) c.put_mask.ensures.written

pub returns-clause-followed : goal.returns-clause-followed
returns-clause-followed g c =
    let m : Channel = c.args.mask.now in
    on_ok_weaker c.put_mask.result
    (with_mask g.C.PlaneCoder.follows c.args.compression c.args.plane.now (Some m) m c.args.coder.now c.put_plane.new.coder
    c.put_mask.new.coder refl c.in_ok-put_plane.ensures.followed) c.put_mask.ensures.followed
