use Rattle.std.proofs.Common.{◌≡◌, ◌∙◌, ap, arith, length}
use Rattle.std.proofs.lemmas.List.{take_at}
use Rattle.std.proofs.lemmas.Result.{IfOk-weaker}
use Rattle.xl_tile.specs.Overlay.{overlaid}
use Rattle.xl_tiles.specs.Table.{tile_of}
use Rattle.xl_tile.proofs.Overlays.{laid_over}
use Rattle.xl_tiles.proofs.writing.copied_tile.Goals as goal

pub returns : goal.returns
returns c =
    let laid = laid_over c.args.overlay c.args.bytes.now c.in_ok-own.own.items
    (tile_of c.args.sheet.width c.args.tiles.now c.args.spot.col c.args.spot.row) c.in_ok-own.ensures.same in
    let size : length c.put.new.tile ≡ c.in_ok-own.own.len =
    omega (arith, c.put.auto.tile, c.deref_mut.ensures.len, c.in_ok-own.own.ok.0) in
    record {
      value = IfOk-weaker c.of_bytes.result _ _ (λ t is.
          is
          ∙ (take_at c.put.new.tile _ c.in_ok-own.own.len size
          ∙ (c.put.ensures ∙ (ap (overlaid c.args.overlay c.args.bytes.now) c.deref_mut.ensures.value ∙ laid)))) c.of_bytes.ensures.value;
    }
