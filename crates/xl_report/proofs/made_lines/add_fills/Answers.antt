use Rattle.std.proofs.Common.{◌≡◌, ◌+◌, refl, sym, rules}
use Rattle.std.proofs.lemmas.List.{append-nil}
use Rattle.std.proofs.lemmas.Result.{IfOk-from_err}
use Rattle.spec_generated.specs.Draws.{times}
use Rattle.spec_generated.specs.Generated.{fill}
use Rattle.xl_script.specs.Lines.{line_of, lines_of}
use Rattle.xl_report.proofs.MadeLines.{line_more}
use Rattle.xl_report.proofs.Repeats.{adds_all, adds_step, same_added}
use Rattle.xl_report.proofs.made_lines.add_fills.Goals as goal

pub loop-fill-init : goal.loop-fill-init
loop-fill-init c = (sym (append-nil (lines_of c.args.lines.now)), refl)

pub loop-fill-preserved : goal.loop-fill-preserved
loop-fill-preserved c =
    let n = c.loop-fill._fill in
    let fills = fill c.args.layer in
    same_added (times (n + 1) fills) c.args.draws.now c.fill.new.draws (lines_of c.args.lines.now) _ _
    (line_more c.loop-fill.lines c.push.new.self c.in_ok-line.line c.in_ok-push.ensures.ok)
    (adds_step fills n (n + 1) c.args.draws.now c.loop-fill.draws c.fill.new.draws (lines_of c.args.lines.now)
    (lines_of c.loop-fill.lines) (line_of c.in_ok-line.line) refl
    c.loop-fill.invariant c.in_ok-line.ensures)

pub returns : goal.returns
returns c =
    let end : c.loop-fill._fill ≡ 32 = search rules in
    adds_all (fill c.args.layer) c.loop-fill._fill 32 c.args.draws.now c.loop-fill.draws (lines_of c.args.lines.now)
    (lines_of c.loop-fill.lines) end c.loop-fill.invariant

pub returns-in_err-push : goal.returns-in_err-push
returns-in_err-push c = IfOk-from_err c.from_residual-in_err-push.result _ c.from_residual-in_err-push.ensures.0
