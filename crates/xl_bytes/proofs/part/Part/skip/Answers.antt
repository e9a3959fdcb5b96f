use Rattle.xl_bytes.proofs.Slices.{skipped}
use Rattle.xl_bytes.proofs.part.Part.skip.Goals as goal

pub returns : goal.returns
returns c = rw (← c.self.view_is) (skipped _ _ _ c.args.n (rw (← c.self.view_is) at c.requires) c.self.invariant)
