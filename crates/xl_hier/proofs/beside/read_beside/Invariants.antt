use Rattle.std.specs.Arc.{arc_value}
use Rattle.xl_hier.proofs.Joined.{Joining}
use Rattle.xl_hier.proofs.beside.read_beside.Given as goal

abbrev pub invariant-loop-band : goal.invariant-loop-band
invariant-loop-band g l = Joining (arc_value l.fn.file).items l.fn.first l.fn.frame l.band-iterator.rest.items l.tiles.items
