use Rattle.std.proofs.Common.{◌≡◌, refl, ◌∙◌, subst, arith}
use Rattle.xl_compose.specs.Source.{sheet_pixel}
use Rattle.xl_compose.proofs.BandRows.{AreLaidTo}
use Rattle.xl_compose.proofs.ColumnRuns.{no_columns, more_columns, still_neat, column_cost}
use Rattle.xl_compose.proofs.source.lay_columns.Goals as goal

pub loop-done-init : goal.loop-done-init
loop-done-init g c = record {
  few = omega arith;
  size = refl;
  cost = omega arith;
  laid = no_columns c.args.laid.mode c.args.meeting.across.skip c.args.meeting.across.from c.args.meeting.down.skip c.args.meeting.down.from c.args.meeting.down.count
      c.args.band.w c.args.band.h
      (sheet_pixel c.args.laid.colours.now c.args.laid.opacity c.args.laid.layer.now) c.args.picture.now c.requires.neat;
}

pub loop-done-preserved : goal.loop-done-preserved
loop-done-preserved g c = record {
  few = omega (arith, c.columns_at.ensures.within);
  size = c.lay_rect.ensures.length ∙ c.loop-done.invariant.size;
  cost = column_cost c.args.steps.now c.loop-done.steps c.lay_rect.new.steps c.args.meeting.down.count c.loop-done.done
      c.columns_at.result c.loop-done.invariant.cost c.lay_rect.ensures.cost;
  laid = more_columns c.args.laid.mode c.args.meeting.across.skip c.args.meeting.across.from c.loop-done.done c.columns_at.result
      c.args.meeting.down.skip c.args.meeting.down.from c.args.meeting.down.count c.args.band.w c.args.band.h
      (sheet_pixel c.args.laid.colours.now c.args.laid.opacity c.args.laid.layer.now) c.args.picture.now c.loop-done.picture
      c.lay_rect.new.picture c.requires.neat c.loop-done.invariant.laid c.lay_rect.ensures.each;
}

pub lay_rect-requires-clause-neat : goal.lay_rect-requires-clause-neat
lay_rect-requires-clause-neat g c =
    still_neat c.args.laid.mode c.args.meeting.across.skip c.args.meeting.across.from c.loop-done.done c.args.meeting.down.skip c.args.meeting.down.from
    c.args.meeting.down.count c.args.band.w c.args.band.h
    (sheet_pixel c.args.laid.colours.now c.args.laid.opacity c.args.laid.layer.now) c.args.picture.now c.loop-done.picture c.requires.neat
    c.loop-done.invariant.laid

pub returns-clause-each : goal.returns-clause-each
returns-clause-each g c =
    let all : c.loop-done.done ≡ c.args.meeting.across.count = omega (arith, c.loop-done.invariant.few) in
    subst (λ (n : _). AreLaidTo c.args.laid.mode c.args.meeting.across.skip c.args.meeting.across.from n c.args.meeting.down.skip c.args.meeting.down.from
    c.args.meeting.down.count c.args.band.w c.args.band.h
    (sheet_pixel c.args.laid.colours.now c.args.laid.opacity c.args.laid.layer.now) c.args.picture.now c.loop-done.picture) all
    c.loop-done.invariant.laid
