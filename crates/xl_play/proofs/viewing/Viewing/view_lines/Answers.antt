use Rattle.std.proofs.Common.{refl, ◌∙◌, ap, string_bytes, arith}
use Rattle.xl_script.specs.Lines.{lines_of}
use Rattle.xl_run.proofs.Boxes.{full_states}
use Rattle.xl_play.proofs.Chests.{states_fit}
use Rattle.xl_play.proofs.UnderWay.{under_way_fit, under_way_free, under_way_all}
use Rattle.xl_play.proofs.ViewUnderWay.{view_none, view_line, view_more}
use Rattle.xl_play.proofs.viewing.Viewing.view_lines.Goals as goal

pub loop-line-init : goal.loop-line-init
loop-line-init g c =
    view_none _ c.args.core.now c.args.lines.items c.into_iter-line-iterator.result.rest.items c.args.self.now.cols c.args.self.now.rows 0 _
    c.in_ok-viewer.viewer.seen (string_bytes c.new-text.result)
    (c.in_ok-desk.ensures ∙ full_states _ c.args.boxes.items) c.requires.fresh refl c.requires.inside c.requires.kept
    c.new-text.ensures.bytes (ap (λ v. v.seen) c.in_ok-viewer.ensures)
    (states_fit _ c.args.boxes.items (lines_of c.args.lines.items) c.requires.fit) c.requires.viewed
    c.into_iter-line-iterator.ensures.into_iter_gives.0

pub view_line-requires-clause-few : goal.view_line-requires-clause-few
view_line-requires-clause-few g c κs within =
    under_way_free c.in-Some.line c.next.new.self.rest.items c.loop-line.invariant.way c.in-Some.ensures.steps.0 c.requires.few

pub view_line-requires-clause-fit : goal.view_line-requires-clause-fit
view_line-requires-clause-fit g c κs within =
    under_way_fit c.in-Some.line c.next.new.self.rest.items c.loop-line.invariant.way c.in-Some.ensures.steps.0

pub view_line-requires-clause-viewed : goal.view_line-requires-clause-viewed
view_line-requires-clause-viewed g c κs within =
    view_line c.in-Some.line c.next.new.self.rest.items c.loop-line.invariant c.in-Some.ensures.steps.0

pub loop-line-preserved : goal.loop-line-preserved
loop-line-preserved g c =
    view_more c.in-Some.line c.next.new.self.rest.items c.loop-line.invariant c.in-Some.ensures.steps.0
    _ c.view_line.new.core _ c.view_line.new.viewer.seen (string_bytes c.view_line.new.transcript.text) c.view_line.ensures.between
    c.view_line.ensures.shelf c.in_ok-view_line.ensures.made c.in_ok-view_line.ensures.next c.in_ok-view_line.ensures.kept
    c.in_ok-view_line.ensures.history c.in_ok-view_line.ensures.shown

pub returns-clause-made : goal.returns-clause-made
returns-clause-made g c =
    under_way_all c.loop-line.invariant.way (omega (arith, c.in-None.ensures.steps.0, c.loop-line.line-iterator.rest.ok))
