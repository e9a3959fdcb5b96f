use Rattle.xl_script.specs.Lines.{lines_of, lists_of}
use Rattle.std.proofs.Common.{sym, subst}
use Rattle.std.specs.List.{AllByRecursion}
use Rattle.spec_view.specs.Script.{IsViewedLine}
use Rattle.xl_play.proofs.OfFirst.{first_few}
use Rattle.xl_play.proofs.ViewTexts.{script_views, view_fits}
use Rattle.xl_play.proofs.viewing.Viewing.view_script.Goals as goal

pub view_lines-requires-clause-fit : goal.view_lines-requires-clause-fit
view_lines-requires-clause-fit g c κs within =
    view_fits _ c.args.chest.items (lists_of c.args.script) c.first_boxes-boxes.result.items
    (lines_of c.first_lines-lines.result.items) c.requires.fits c.first_boxes-boxes.ensures.first c.first_lines-lines.ensures

pub view_lines-requires-clause-few : goal.view_lines-requires-clause-few
view_lines-requires-clause-few g c κs within =
    first_few _ (lists_of c.args.script) (lines_of c.first_lines-lines.result.items) c.requires.fits c.first_lines-lines.ensures

pub view_lines-requires-clause-viewed : goal.view_lines-requires-clause-viewed
view_lines-requires-clause-viewed g c κs within =
    subst (AllByRecursion IsViewedLine) (sym c.first_lines-lines.ensures) c.requires.viewed

pub returns-clause-views : goal.returns-clause-views
returns-clause-views g c =
    script_views _ c.view_lines.new.core.history.base c.args.core.now.history.base (lists_of c.args.script) c.args.chest.items
    c.first_boxes-boxes.result.items (lines_of c.first_lines-lines.result.items) c.view_lines.new.core.history.entries c.args.self.now.cols
    c.args.self.now.rows c.view_lines.result c.view_lines.ensures.between.base_is c.first_lines-lines.ensures
    c.first_boxes-boxes.ensures.first c.view_lines.ensures.shown c.view_lines.ensures.made
