use Rattle.std.proofs.Common.{◌+◌, ◌-◌, arith}
use Rattle.xl_props.proofs.Part.{part_checked}
use Rattle.xl_props.proofs.property.payload_at.Goals as goal

pub returns-clause-checked : goal.returns-clause-checked
returns-clause-checked c =
    let at = c.args.at + 8 in
    let n = c.in_ok-n.n in
    part_checked c.args.bytes.now c.args.owner c.args.kind at (at + n - at) n (omega arith) (omega (arith, c.in_ok-n.ensures.fits))
    (λ i. omega (arith, c.type_inv.bytes i))
    (omega (arith, c.ranges.kind)) c.requires.not_end c.in_ok-n.ensures.few c.in_ok-n.ensures.colours
    c.in_ok-check_rules.ensures.anywhere
