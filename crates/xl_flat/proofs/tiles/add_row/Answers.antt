-- One tile more.
use Rattle.std.proofs.Common.{◌≡◌, ◌+◌, ◌-◌, ◌*◌, ◌<◌, min, ap, arith, rules, refl, subst}
use Rattle.spec_document.specs.Document.{Document}
use Rattle.spec_document.specs.Grid.{tiles_along}
use Rattle.xl_compose.specs.Cost.{visible_below}
use Rattle.xl_compose.proofs.Costs.{band_cost}
use Rattle.xl_flat.specs.Flattening.{AreFlatTiles}
use Rattle.xl_flat.proofs.LayerTiles.{next_tile, part_cost}
use Rattle.xl_flat.proofs.tiles.add_row.Goals as goal

pub loop-col-preserved : goal.loop-col-preserved
loop-col-preserved g c =
    let d = c.args.doc.now in
    let col = c.loop-col.col in
    let width : c.doc.inside.width ≡ d.width = ap (λ (d : Document). d.width) c.doc.view_is in
    let inside : col < tiles_along d.width = omega (arith, width) in
    record {
      same = search rules;
      tiles = next_tile d c.args.row col c.loop-col.made.items c.push.new.self.items c.in_ok-tile.tile inside
          c.loop-col.invariant.tiles (search rules) c.in_ok-tile.ensures.tile c.len.ensures.bytes;
      cost = band_cost c.args.steps.now c.loop-col.steps c.layer_tile.new.steps (visible_below d 0)
          (min 64 (d.height - 64 * c.args.row)) d.width col (min 64 (d.width - 64 * col)) c.loop-col.invariant.cost
          c.layer_tile.ensures.cost refl (omega (arith, inside));
    }

-- a tile more costs no more than the row
pub returns-in_err-tile-clause-cost : goal.returns-in_err-tile-clause-cost
returns-in_err-tile-clause-cost g c =
    let d = c.args.doc.now in
    let col = c.loop-col.col in
    let width : c.doc.inside.width ≡ d.width = ap (λ (d : Document). d.width) c.doc.view_is in
    let rows = min 64 (d.height - 64 * c.args.row) in
    part_cost c.args.steps.now c.layer_tile.new.steps (visible_below d 0) rows d.width (64 * (col + 1))
    (band_cost c.args.steps.now c.loop-col.steps c.layer_tile.new.steps (visible_below d 0) rows d.width col
    (min 64 (d.width - 64 * col)) c.loop-col.invariant.cost c.layer_tile.ensures.cost refl (omega (arith, width)))

pub returns-in_err-push-clause-cost : goal.returns-in_err-push-clause-cost
returns-in_err-push-clause-cost g c =
    let d = c.args.doc.now in
    let col = c.loop-col.col in
    let width : c.doc.inside.width ≡ d.width = ap (λ (d : Document). d.width) c.doc.view_is in
    let rows = min 64 (d.height - 64 * c.args.row) in
    part_cost c.args.steps.now c.layer_tile.new.steps (visible_below d 0) rows d.width (64 * (col + 1))
    (band_cost c.args.steps.now c.loop-col.steps c.layer_tile.new.steps (visible_below d 0) rows d.width col
    (min 64 (d.width - 64 * col)) c.loop-col.invariant.cost c.layer_tile.ensures.cost refl (omega (arith, width)))

pub returns-clause-tiles : goal.returns-clause-tiles
returns-clause-tiles g c =
    let d = c.args.doc.now in
    let width : c.doc.inside.width ≡ d.width = ap (λ (d : Document). d.width) c.doc.view_is in
    let all : c.loop-col.col ≡ tiles_along d.width = omega (arith, width) in
    subst (λ k. AreFlatTiles d k c.loop-col.made.items) (omega (arith, all)) c.loop-col.invariant.tiles

pub returns-clause-cost : goal.returns-clause-cost
returns-clause-cost g c =
    let d = c.args.doc.now in
    part_cost c.args.steps.now c.loop-col.steps (visible_below d 0) (min 64 (d.height - 64 * c.args.row)) d.width
    (64 * c.loop-col.col) c.loop-col.invariant.cost
