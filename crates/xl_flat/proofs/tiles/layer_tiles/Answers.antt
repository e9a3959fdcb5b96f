-- One row of tiles after another.
use Rattle.std.proofs.Common.{◌≡◌, ℕ, ◌+◌, ◌-◌, ◌*◌, min, List, [], refl, sym, ◌∙◌, ap, subst, rules, arith, mul_comm}
use Rattle.spec_document.specs.Document.{Document}
use Rattle.spec_document.specs.Grid.{tiles_along}
use Rattle.xl_compose.specs.Cost.{visible_below}
use Rattle.xl_compose.proofs.Costs.{band_cost}
use Rattle.xl_tiles.proofs.FreshTiles.{none_first}
use Rattle.xl_flat.specs.Flattening.{AreFlatTiles}
use Rattle.xl_flat.proofs.LayerTiles.{part_cost}
use Rattle.xl_flat.proofs.tiles.layer_tiles.Goals as goal

none_made : (d : Document) (k : ℕ) (tiles : List (List ℕ)) → k ≡ 0 → tiles ≡ [] → AreFlatTiles d k tiles
none_made d k tiles zero empty =
    subst (λ k. AreFlatTiles d k tiles) (sym zero) (subst (λ ts. AreFlatTiles d 0 ts) (sym empty) none_first)

pub loop-row-init : goal.loop-row-init
loop-row-init g c =
    let empty : c.new-made.result.items ≡ [] = search rules in
    record {
      same = refl;
      tiles = none_made c.args.doc.now (0 * tiles_along c.args.doc.now.width) c.new-made.result.items (omega arith) empty;
      cost = omega arith;
    }

pub loop-row-preserved : goal.loop-row-preserved
loop-row-preserved g c =
    let d = c.args.doc.now in
    let height : c.doc.inside.height ≡ d.height = ap (λ (d : Document). d.height) c.doc.view_is in
    record {
      same = c.add_row.ensures.same ∙ c.loop-row.invariant.same;
      tiles = c.in_ok-add_row.ensures.tiles;
      cost = band_cost c.args.steps.now c.loop-row.steps c.add_row.new.steps (visible_below d 0) d.width d.height c.loop-row.row
          (min 64 (d.height - 64 * c.loop-row.row)) c.loop-row.invariant.cost c.add_row.ensures.cost refl (omega (arith, height));
    }

pub returns-in_err-add_row-clause-cost : goal.returns-in_err-add_row-clause-cost
returns-in_err-add_row-clause-cost g c =
    let d = c.args.doc.now in
    let row = c.loop-row.row in
    let height : c.doc.inside.height ≡ d.height = ap (λ (d : Document). d.height) c.doc.view_is in
    part_cost c.args.steps.now c.add_row.new.steps (visible_below d 0) d.width d.height (64 * (row + 1))
    (band_cost c.args.steps.now c.loop-row.steps c.add_row.new.steps (visible_below d 0) d.width d.height row
    (min 64 (d.height - 64 * row)) c.loop-row.invariant.cost c.add_row.ensures.cost refl (omega (arith, height)))

pub returns-clause-tiles : goal.returns-clause-tiles
returns-clause-tiles g c =
    let d = c.args.doc.now in
    let height : c.doc.inside.height ≡ d.height = ap (λ (d : Document). d.height) c.doc.view_is in
    let all : c.loop-row.row ≡ tiles_along d.height = omega (arith, height) in
    subst (λ k. AreFlatTiles d k c.loop-row.made.items)
    (ap (λ row. row * tiles_along d.width) all ∙ mul_comm (tiles_along d.height) (tiles_along d.width))
    c.loop-row.invariant.tiles

pub returns-clause-cost : goal.returns-clause-cost
returns-clause-cost g c =
    let d = c.args.doc.now in
    part_cost c.args.steps.now c.loop-row.steps (visible_below d 0) d.width d.height (64 * c.loop-row.row)
    c.loop-row.invariant.cost
