use Rattle.std.proofs.Common.{arith, length, drop, sym, ◌∙◌, ◌≡◌, take_all, take, ◌-◌, ap, false, length-drop}
use Rattle.spec_rle.specs.Greedy.{begins_run}
use Rattle.xl_rle.proofs.GreedyCodes.{literal_more}
use Rattle.xl_rle.proofs.greedy.literal_length.Goals as goal

pub loop-n-preserved : goal.loop-n-preserved
loop-n-preserved c =
    let rest : take (length c.args.bytes.now - c.loop-n.n) (drop c.loop-n.n c.args.bytes.now) ≡ drop c.loop-n.n c.args.bytes.now =
    take_all _ _ (omega (arith, length-drop c.loop-n.n c.args.bytes.now)) in
    let off : begins_run (drop c.loop-n.n c.args.bytes.now) ≡ false = ap begins_run (sym rest)
    ∙ (sym c.begins_run.ensures ∙ c.if-not-begins_run.true) in
    record {
      inside = omega arith;
      counted = omega (arith, c.loop-n.invariant.counted, literal_more c.args.bytes.now c.loop-n.n (omega arith) off);
    }
