use Rattle.std.proofs.Common.{◌≡◌, ◌+◌, ◌*◌, ◌≤◌, min}
use Rattle.spec_document.specs.Grid.{tiles_along}
use Rattle.xl_compose.specs.Cost.{visible_below}
use Rattle.xl_flat.specs.Flattening.{AreFlatTiles}
use Rattle.xl_flat.proofs.tiles.layer_tiles.Given as goal

-- the rows so far are made
abbrev pub invariant-loop-row : goal.invariant-loop-row
invariant-loop-row g l = record {
  same : l.composer ≡ l.fn.composer;
  tiles : AreFlatTiles l.doc (l.row * tiles_along l.doc.width) l.made.items;
  cost : l.steps ≤ l.fn.steps + visible_below l.doc 0 * (min (64 * l.row) l.doc.height * l.doc.width);
}
