use Rattle.std.proofs.Common.{arith, length-drop, length, drop, ◌≤◌, ◌+◌, ◌-◌}
use Rattle.xl_rle.proofs.Blocks.{front_of_literal}
use Rattle.xl_rle.proofs.decode.put_short_literal.Goals as goal
use Rattle.xl_rle.specs.declared.head.TheConstants.{BLOCK}

pub returns : goal.returns
returns c =
    let from = c.args.from in
    let rest = drop from c.args.bytes.now in
    let long : from + BLOCK - from ≤ length rest = omega (arith, length-drop from c.args.bytes.now) in
    front_of_literal c.args.at c.args.len (from + BLOCK - from) rest c.args.out.now c.copy_from_slice.new.self _
    (omega arith) (omega arith) long c.copy_from_slice.ensures.after
