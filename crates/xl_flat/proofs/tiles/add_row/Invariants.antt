use Rattle.std.proofs.Common.{◌≡◌, ◌+◌, ◌-◌, ◌*◌, ◌≤◌, min}
use Rattle.spec_document.specs.Grid.{tiles_along}
use Rattle.xl_compose.specs.Cost.{visible_below}
use Rattle.xl_flat.specs.Flattening.{AreFlatTiles}
use Rattle.xl_flat.proofs.tiles.add_row.Given as goal

-- the tiles of the columns so far are added
abbrev pub invariant-loop-col : goal.invariant-loop-col
invariant-loop-col g l = record {
  same : l.composer ≡ l.fn.composer;
  tiles : AreFlatTiles l.doc (l.fn.row * tiles_along l.doc.width + l.col) l.made.items;
  cost : l.steps ≤ l.fn.steps + visible_below l.doc 0
      * (min (64 * l.col) l.doc.width * min 64 (l.doc.height - 64 * l.fn.row));
}
