use Rattle.std.proofs.Common.{◌≡◌, ◌+◌, ◌*◌, ap, sym, ◌∙◌, arith, inl, inr}
use Rattle.xl_doc.specs.Sheet.{Sheet}
use Rattle.xl_compose.specs.Laid.{pixel}
use Rattle.xl_compose.specs.Span.{place, place_by}
use Rattle.std.proofs.lemmas.Int.{to_z-of_z}
use mir.Val.{SFits}
use mir.Syntax.{w32}
use Rattle.xl_compose.proofs.Costs.{part_cost}
use Rattle.xl_compose.proofs.Layers.{offset_fits, no_row_there, no_column_there, by_place}
use Rattle.xl_compose.proofs.source.lay_layer.Goals as goal

pub returns-then-down-eq0-clause-each : goal.returns-then-down-eq0-clause-each
returns-then-down-eq0-clause-each g c = λ v k hv hk.
    let i = c.layer.inside in
    let s : Sheet = record { kind = i.kind; x = i.x; y = i.y; plane = i.plane; mask = i.mask; apply_mask = i.apply_mask } in
    let down = c.overlap-down.result in
    let across = c.overlap-across.result in
    let p = pixel c.args.picture.now (v * c.args.band.w + k) in
    let fits_x : SFits w32 i.x = offset_fits i.x c.layer.invariant.x in
    let fits_y : SFits w32 i.y = offset_fits i.y c.layer.invariant.y in
    let row : place i.y i.plane.height (c.args.band.y + v) ≡ place_by down.skip down.from down.count v =
    ap (λ n. place i.y n (c.args.band.y + v)) (sym c.height.ensures.value)
    ∙ (simp to_z-of_z at (c.overlap-down.ensures.place v hv)) in
    let column : place i.x i.plane.width (c.args.band.x + k) ≡ place_by across.skip across.from across.count k =
    ap (λ n. place i.x n (c.args.band.x + k)) (sym c.width.ensures.value)
    ∙ (simp to_z-of_z at (c.overlap-across.ensures.place k hk)) in
    rw (← c.layer.view_is) (elim c.then-down-eq0.either [
      | inl none ↦ no_row_there c.args.laid.mode c.args.laid.colours.now c.args.laid.opacity s (c.args.band.x + k)
          (c.args.band.y + v) down.skip down.from down.count v p (c.requires.neat v k hv hk) row none
      | inr others ↦ no_column_there c.args.laid.mode c.args.laid.colours.now c.args.laid.opacity s (c.args.band.x + k)
          (c.args.band.y + v) across.skip across.from across.count k p (c.requires.neat v k hv hk) column others.1
    ])

pub returns-clause-cost : goal.returns-clause-cost
returns-clause-cost g c =
    part_cost c.args.steps.now c.lay_columns.new.steps c.overlap-down.result.count c.overlap-across.result.count c.args.band.h
    c.args.band.w c.lay_columns.ensures.cost
    (omega (arith, c.overlap-down.ensures.row)) (omega (arith, c.overlap-across.ensures.row))

pub returns-clause-each : goal.returns-clause-each
returns-clause-each g c = λ v k hv hk.
    let i = c.layer.inside in
    let s : Sheet = record { kind = i.kind; x = i.x; y = i.y; plane = i.plane; mask = i.mask; apply_mask = i.apply_mask } in
    let down = c.overlap-down.result in
    let across = c.overlap-across.result in
    let p = pixel c.args.picture.now (v * c.args.band.w + k) in
    let fits_x : SFits w32 i.x = offset_fits i.x c.layer.invariant.x in
    let fits_y : SFits w32 i.y = offset_fits i.y c.layer.invariant.y in
    let row : place i.y i.plane.height (c.args.band.y + v) ≡ place_by down.skip down.from down.count v =
    ap (λ n. place i.y n (c.args.band.y + v)) (sym c.height.ensures.value)
    ∙ (simp to_z-of_z at (c.overlap-down.ensures.place v hv)) in
    let column : place i.x i.plane.width (c.args.band.x + k) ≡ place_by across.skip across.from across.count k =
    ap (λ n. place i.x n (c.args.band.x + k)) (sym c.width.ensures.value)
    ∙ (simp to_z-of_z at (c.overlap-across.ensures.place k hk)) in
    c.lay_columns.ensures.each v k hv hk
    ∙ rw (← c.layer.view_is) (by_place c.args.laid.mode c.args.laid.colours.now c.args.laid.opacity s (c.args.band.x + k) (c.args.band.y + v)
    (place_by across.skip across.from across.count k) (place_by down.skip down.from down.count v) p column row)
