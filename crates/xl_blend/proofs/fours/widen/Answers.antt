use Rattle.std.proofs.lemmas.List.{map-id}
use Rattle.std.proofs.lemmas.Simd.{bytes_below}
use Rattle.xl_blend.proofs.fours.widen.Goals as goal

pub returns-clause-bytes : goal.returns-clause-bytes
returns-clause-bytes c = rw (map-id c.args.bytes) (c.fits-bytes.0, bytes_below c.args.bytes c.fits-bytes.1)
