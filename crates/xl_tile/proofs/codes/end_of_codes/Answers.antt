use Rattle.std.proofs.Common.{◌≡◌, ◌-◌, sym, subst, arith}
use Rattle.xl_tile.specs.Codes.{StandTo}
use Rattle.xl_tile.proofs.CodePlanes.{no_planes, next_inside, one_before}
use Rattle.xl_tile.proofs.codes.end_of_codes.Goals as goal

pub loop-c-preserved : goal.loop-c-preserved
loop-c-preserved c =
    let read = sym c.in-Ok.ensures in
    record {
      inside = next_inside c.args.bytes.now c.loop-c.end c.args.n c.in-Ok.next c.know_bytes.ensures c.requires.some read;
      rest = λ end stands. c.loop-c.invariant.rest end
          (one_before c.args.bytes.now c.loop-c.end c.args.n c.args.planes c.loop-c._c c.in-Ok.next end c.know_bytes.ensures
          c.requires.some (omega arith) read (omega arith) stands);
    }

pub returns : goal.returns
returns c =
    let none : 0 ≡ c.args.planes - c.loop-c._c = omega arith in
    c.loop-c.invariant.rest c.loop-c.end
    (subst (λ k. StandTo c.args.bytes.now c.loop-c.end c.args.n k c.loop-c.end) none
    (no_planes c.args.bytes.now c.loop-c.end c.args.n c.loop-c.invariant.inside))
