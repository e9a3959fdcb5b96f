use Rattle.std.proofs.lemmas.Nat.{mul-le}
use Rattle.xl_tile.proofs.stored.Stored.len.Goals as goal

pub returns-clause-few : goal.returns-clause-few
returns-clause-few c = mul-le c.self.inside.pixels c.self.inside.bpp 4096 4 c.self.invariant.few c.self.invariant.few_bytes
