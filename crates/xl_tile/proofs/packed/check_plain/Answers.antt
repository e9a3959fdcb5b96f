use Rattle.std.proofs.Common.{◌∙◌, ap, Err}
use Rattle.xl_tile.proofs.PackedTiles.{plain_short, plain_there}
use Rattle.xl_tile.proofs.packed.check_plain.Goals as goal

pub returns-then-bytes-at : goal.returns-then-bytes-at
returns-then-bytes-at c = ap Err c.refuse.ensures ∙ plain_short _ _ _ c.if-bytes-at.true

pub returns : goal.returns
returns c = plain_there _ _ _ c.if-bytes-at.false
