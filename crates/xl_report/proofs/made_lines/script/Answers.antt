use Rattle.std.proofs.Common.{◌≡◌, ◌+◌, [], ◌∷◌, length, refl, ap, rules, arith, length-append}
use Rattle.std.proofs.lemmas.Result.{IfOk-from_err}
use Rattle.spec_document.specs.Rect.{count_from}
use Rattle.spec_generated.specs.Draws.{for_each}
use Rattle.spec_generated.specs.Generated.{session_lines}
use Rattle.xl_script.specs.Lines.{lines_of, lists_of}
use Rattle.xl_report.proofs.MadeLines.{list_more}
use Rattle.xl_report.proofs.Repeats.{count_more, each_all, for_each_step, same_drawn}
use Rattle.xl_report.proofs.made_lines.script.Goals as goal

pub loop-session-preserved : goal.loop-session-preserved
loop-session-preserved c =
    let n = c.loop-session.session in
    let so_far = c.loop-session.lists.items in
    let list = c.in_ok-list.list in
    record {
      drawn = same_drawn (for_each (count_from 0 (n + 1)) session_lines) c.args.draws.now c.args.draws.now c.session_lines.new.draws
          _ _ refl
          (list_more so_far c.push.new.self.items list c.in_ok-push.ensures.items)
          (for_each_step session_lines (count_from 0 n)
          (count_from 0 (n + 1)) n c.args.draws.now c.loop-session.draws c.session_lines.new.draws (lists_of so_far)
          (lines_of list) (count_more n)
          c.loop-session.invariant.drawn c.in_ok-list.ensures);
      many = omega (arith, ap length c.in_ok-push.ensures.items, length-append so_far (list ∷ []), c.loop-session.invariant.many);
    }

pub returns : goal.returns
returns c =
    let end : c.loop-session.session ≡ 8 = search rules in
    let all = c.loop-session.lists.items in
    same_drawn (for_each (count_from 0 8) session_lines) c.args.draws.now c.args.draws.now c.loop-session.draws
    (lists_of all) _ refl (ap lists_of c.of.ensures)
    (each_all session_lines c.loop-session.session 8 c.args.draws.now c.loop-session.draws
    (lists_of all) end c.loop-session.invariant.drawn)

pub returns-in_err-push : goal.returns-in_err-push
returns-in_err-push c = IfOk-from_err c.from_residual-in_err-push.result _ c.from_residual-in_err-push.ensures.0
