use Rattle.std.proofs.Common.{arith, ◌*◌, ◌+◌, ◌-◌}
use Rattle.spec_document.proofs.OverLemmas.{mean-is_byte}
use Rattle.xl_blend.proofs.Weighed.{rounded, weighed}
use Rattle.xl_blend.proofs.words.mix_byte.Goals as goal

pub returns-clause-value : goal.returns-clause-value
returns-clause-value c =
    rounded (c.args.above * c.args.part + c.args.below * (255 - c.args.part))
    (weighed c.args.part c.args.above c.args.below c.requires.part c.requires.above c.requires.below)

pub returns-clause-byte : goal.returns-clause-byte
returns-clause-byte c =
    rw (rounded (c.args.above * c.args.part + c.args.below * (255 - c.args.part))
    (weighed c.args.part c.args.above c.args.below c.requires.part c.requires.above c.requires.below))
    (mean-is_byte 255 c.args.part c.args.above c.args.below (omega arith) c.requires.part c.requires.above c.requires.below)
