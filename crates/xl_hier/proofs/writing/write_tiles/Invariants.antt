use Rattle.xl_hier.proofs.Filling.{Filling}
use Rattle.xl_hier.proofs.PlanesFollowed.{FollowsTiles}
use Rattle.xl_hier.proofs.writing.write_tiles.Given as goal

abbrev pub invariant-loop-k : goal.invariant-loop-k
invariant-loop-k g l = record {
  filling : Filling g.C.PlaneCoder.fits l.compression l.plane l.first l.k l.tiles.bytes l.tiles.begins.items;
  followed : FollowsTiles g.C.PlaneCoder.follows l.compression l.plane l.k l.initial.coder l.coder;
}
