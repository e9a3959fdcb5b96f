use Rattle.std.proofs.Common.{◌≡◌, suc, ◌+◌, ◌*◌, ◌≤◌, length, length-take-le, mul-le-mul_right, ◌∙◌, subst, arith}
use Rattle.spec_document.specs.Rect.{part_above_0}
use Rattle.xl_compose.specs.Source.{sheet_pixel}
use Rattle.xl_compose.proofs.BandRows.{AreLaidTo, none_laid, row_laid}
use Rattle.xl_compose.proofs.Costs.{row_cost}
use Rattle.xl_compose.proofs.source.lay_rows.Goals as goal

pub lay_part-requires : goal.lay_part-requires
lay_part-requires g c =
    let next : suc (c.args.patch.top + c.loop-r.r) * c.args.band.w ≤ c.args.band.h * c.args.band.w =
    mul-le-mul_right c.args.band.w (omega (arith, c.requires.down)) in
    omega (arith, next, c.requires.across, c.source_row.ensures.length, c.loop-r.invariant.row, c.requires.picture)

pub loop-r-init : goal.loop-r-init
loop-r-init g c = record {
  row = length-take-le c.args.patch.part.w c.args.source.now c.requires.source;
  cost = omega arith;
  laid = none_laid c.args.laid.mode c.args.patch.left (part_above_0 c.args.patch.part.x) c.args.patch.part.w c.args.patch.top
      (part_above_0 c.args.patch.part.y) c.args.band.w c.args.band.h
      (sheet_pixel c.args.laid.colours.now c.args.laid.opacity c.args.laid.layer.now) c.args.picture.now c.requires.neat;
}

pub loop-r-preserved : goal.loop-r-preserved
loop-r-preserved g c = record {
  row = c.source_row.ensures.length ∙ c.loop-r.invariant.row;
  cost = row_cost c.args.steps.now c.loop-r.steps c.lay_part.new.steps c.loop-r.r c.args.patch.part.w
      (length c.source_row.new.row) c.loop-r.invariant.cost c.lay_part.ensures.cost (c.source_row.ensures.length
      ∙ c.loop-r.invariant.row);
  laid = row_laid c.args.laid.mode c.args.patch.left (part_above_0 c.args.patch.part.x) c.args.patch.part.w c.args.patch.top
      (part_above_0 c.args.patch.part.y) c.loop-r.r c.args.band.w c.args.band.h
      (sheet_pixel c.args.laid.colours.now c.args.laid.opacity c.args.laid.layer.now) c.args.picture.now c.loop-r.picture c.source_row.new.row
      c.lay_part.new.row c.requires.neat c.requires.across
      (c.source_row.ensures.length ∙ c.loop-r.invariant.row)
      (λ j h. c.source_row.ensures.each j (omega (arith, h, c.loop-r.invariant.row))) c.lay_part.ensures.laid
      c.loop-r.invariant.laid;
}

pub returns-clause-each : goal.returns-clause-each
returns-clause-each g c =
    let all : c.loop-r.r ≡ c.args.patch.part.h = omega arith in
    subst (λ (n : _). AreLaidTo c.args.laid.mode c.args.patch.left (part_above_0 c.args.patch.part.x) c.args.patch.part.w c.args.patch.top
    (part_above_0 c.args.patch.part.y) n c.args.band.w c.args.band.h
    (sheet_pixel c.args.laid.colours.now c.args.laid.opacity c.args.laid.layer.now) c.args.picture.now c.loop-r.picture) all
    c.loop-r.invariant.laid
