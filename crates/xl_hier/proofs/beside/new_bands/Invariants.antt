use Rattle.std.proofs.Common.{◌≡◌, [], length}
use Rattle.std.specs.Prelude.{All}
use Rattle.xl_hier.proofs.beside.new_bands.Given as goal

-- the rooms so far
abbrev pub invariant-loop-row : goal.invariant-loop-row
invariant-loop-row l = record {
  count : length l.bands.items ≡ l._row;
  empty : All (λ band. band.tiles.items ≡ []) l.bands.items;
}
