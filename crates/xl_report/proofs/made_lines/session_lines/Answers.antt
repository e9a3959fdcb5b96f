use Rattle.std.proofs.Common.{◌≡◌, ◌+◌, refl, sym, rules}
use Rattle.spec_generated.specs.Generated.{fills_and_tile, session_lines}
use Rattle.xl_script.specs.Lines.{lines_of}
use Rattle.xl_report.proofs.Chains.{parts_all, save_last}
use Rattle.xl_report.proofs.MadeLines.{line_more}
use Rattle.xl_report.proofs.Repeats.{parts_step, same_drawn}
use Rattle.xl_report.proofs.made_lines.session_lines.Goals as goal

pub loop-part-init : goal.loop-part-init
loop-part-init c = λ i. record { what = lines_of (sym c.new-lines.ensures i); state = c.args.draws.now }

pub loop-part-preserved : goal.loop-part-preserved
loop-part-preserved c =
    let n = c.loop-part._part in
    parts_step (fills_and_tile c.layer_of_session-layer.result) n
    (n + 1) c.args.draws.now c.loop-part.draws c.add_fills_and_tile.new.draws (lines_of c.loop-part.lines)
    (lines_of c.add_fills_and_tile.new.lines) refl
    c.loop-part.invariant c.in_ok-add_fills_and_tile.ensures

pub returns : goal.returns
returns c =
    let end : c.loop-part._part ≡ 3 = search rules in
    same_drawn (session_lines c.args.session) c.args.draws.now c.args.draws.now c.loop-part.draws _ _ refl
    (line_more c.loop-part.lines c.push.new.self _ c.in_ok-push.ensures.ok)
    (save_last c.args.session c.args.draws.now c.loop-part.draws (lines_of c.loop-part.lines)
    (parts_all c.args.session c.layer_of_session-layer.result c.loop-part._part c.args.draws.now _ end
    c.layer_of_session-layer.ensures c.loop-part.invariant))
