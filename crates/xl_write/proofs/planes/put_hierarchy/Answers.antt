use Rattle.std.proofs.Common.{subst}
use Rattle.std.proofs.lemmas.Result.{on_ok_weaker}
use Rattle.spec_hierarchy.specs.Layout.{IsWrittenPlane}
use Rattle.xl_write.proofs.planes.put_hierarchy.Goals as goal

pub returns-clause-written : goal.returns-clause-written
returns-clause-written g c =
    on_ok_weaker c.append_all.result (λ is. record {
      bytes = c.in_ok-bytes.bytes;
      plane = subst (λ at. IsWrittenPlane g.C.PlaneCoder.fits c.args.compression at c.args.plane.now c.in_ok-bytes.bytes)
          c.len.ensures c.in_ok-bytes.ensures.written;
      appended = is;
    }) c.append_all.ensures.ok
