use Rattle.std.proofs.Common.{◌+◌, ◌-◌, ◌≤◌, length, drop, arith, length-take-le, length-drop}
use Rattle.xl_rle.proofs.Blocks.{front_of_run}
use Rattle.xl_rle.proofs.decode.put_short_run.Goals as goal
use Rattle.xl_rle.specs.declared.head.TheConstants.{BLOCK}

pub returns : goal.returns
returns c =
    let at = c.args.at in
    let out = c.args.out.now in
    let long : at + BLOCK - at ≤ length (drop at out) = omega (arith, length-drop at out) in
    let size = length-take-le (at + BLOCK - at) (drop at out) long in
    front_of_run at c.args.len _ c.args.value out c.fill.new.self _ (omega arith) (omega (arith, size))
    (c.fill.ensures.after (λ y e. e))
