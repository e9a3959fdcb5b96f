use Rattle.std.proofs.Common.{map}
use Rattle.spec_document.specs.Rect.{count_from}
use Rattle.spec_hierarchy.specs.Tiles.{tile_plane}
use Rattle.xl_rle.specs.Follows.{FollowsEach}
use Rattle.xl_hier.proofs.Spelling.{Spelling}
use Rattle.xl_hier.proofs.written_tile.append_spellings.Given as goal

abbrev pub invariant-loop-c : goal.invariant-loop-c
invariant-loop-c g l = record {
  spelled : Spelling g.C.PlaneCoder.fits l.plane l.spot l.c l.initial.out.items l.out.items;
  followed : FollowsEach g.C.PlaneCoder.follows l.initial.coder (map (tile_plane l.plane l.spot) (count_from 0 l.c)) l.coder;
}
