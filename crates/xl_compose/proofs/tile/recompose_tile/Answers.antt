use Rattle.std.proofs.Common.{◌≡◌, ◌*◌, ◌∙◌, ap, arith}
use Rattle.xl_compose.specs.Cost.{tile_points}
use Rattle.std.proofs.lemmas.Nat.{mul-le}
use Rattle.xl_compose.proofs.tile.recompose_tile.Goals as goal

pub set_len-requires : goal.set_len-requires
set_len-requires g c =
    let width = ap (λ r. r.w) c.tile_rect-rect.ensures in
    let height = ap (λ r. r.h) c.tile_rect-rect.ensures in
    let points = mul-le c.tile_rect-rect.result.w c.tile_rect-rect.result.h 64 64 (omega (arith, width)) (omega (arith, height)) in
    omega (arith, points)

pub returns-clause-cost : goal.returns-clause-cost
returns-clause-cost g c =
    let size : c.tile_rect-rect.result.w * c.tile_rect-rect.result.h ≡ tile_points c.args.doc.now c.args.at =
    ap (λ r. r.w * r.h) c.tile_rect-rect.ensures ∙ ap (λ d. tile_points d c.args.at) c.doc.view_is in
    rw size at c.compose.ensures.cost
