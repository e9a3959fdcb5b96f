use Rattle.std.proofs.Common.{refl, ◌∙◌, string_bytes, arith}
use Rattle.xl_script.specs.Lines.{lines_of}
use Rattle.xl_run.proofs.Boxes.{full_states}
use Rattle.xl_play.proofs.Chests.{states_fit}
use Rattle.xl_play.proofs.UnderWay.{under_way_none, under_way_can, under_way_fit, under_way_more, none_played, lines_cut, lines_played}
use Rattle.xl_play.proofs.playing.play_lines.Goals as goal

pub loop-line-init : goal.loop-line-init
loop-line-init g c =
    let opened = c.requires.opened in
    under_way_none _ c.args.core.now c.args.lines.items c.into_iter-line-iterator.result.rest.items 0 _
    (string_bytes c.new-text.result)
    (c.in_ok-desk.ensures ∙ full_states _ c.args.boxes.items) opened.fresh refl opened.inside opened.kept
    c.new-text.ensures.bytes (states_fit _ c.args.boxes.items (lines_of c.args.lines.items) c.requires.lines.fit)
    c.into_iter-line-iterator.ensures.into_iter_gives.0

pub desk_of-requires : goal.desk_of-requires
desk_of-requires g c = c.requires.lines.short

pub play_line-requires-clause-can : goal.play_line-requires-clause-can
play_line-requires-clause-can g c κs within =
    under_way_can c.in-Some.line c.next.new.self.rest.items c.loop-line.invariant c.in-Some.ensures.steps.0
    g.D.Shelf.shelf_state c.requires.opened.selected c.requires.lines.few

pub play_line-requires-clause-fit : goal.play_line-requires-clause-fit
play_line-requires-clause-fit g c κs within =
    under_way_fit c.in-Some.line c.next.new.self.rest.items c.loop-line.invariant c.in-Some.ensures.steps.0

pub loop-line-preserved : goal.loop-line-preserved
loop-line-preserved g c =
    let comes = c.in_ok-play_line.ensures.comes in
    under_way_more c.in-Some.line c.next.new.self.rest.items c.loop-line.invariant c.in-Some.ensures.steps.0
    _ c.play_line.new.core _ (string_bytes c.play_line.new.transcript.text) comes.between comes.made
    c.in_ok-play_line.ensures.next comes.kept comes.played

pub returns-in_err-desk : goal.returns-in_err-desk
returns-in_err-desk g c =
    none_played _ c.args.core.now (lines_of c.args.lines.items) g.D.Shelf.shelf_state c.from_residual.result c.from_residual.ensures.0
    c.requires.opened

pub returns-in_err-play_line : goal.returns-in_err-play_line
returns-in_err-play_line g c =
    let comes = c.in_err-play_line.ensures.comes in
    lines_cut c.in-Some.line c.next.new.self.rest.items c.loop-line.invariant c.in-Some.ensures.steps.0
    _ c.play_line.new.core c.from_residual-in_err-play_line.result c.from_residual-in_err-play_line.ensures.0
    comes.between comes.begun

pub returns : goal.returns
returns g c =
    lines_played c.loop-line.invariant _ (omega (arith, c.in-None.ensures.steps.0, c.loop-line.line-iterator.rest.ok)) refl
