use Rattle.spec_rle.proofs.OnePlane.{one_plane}
use Rattle.spec_rle.proofs.spells_one_plane.Goals as goal

pub returns : goal.returns
returns c = one_plane
