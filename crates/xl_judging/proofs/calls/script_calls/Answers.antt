use Rattle.std.proofs.Common.{◌+◌, List, sym, ◌∙◌, ap, subst}
use Rattle.spec_text.specs.Text.{calls_of}
use Rattle.xl_script.specs.declared.script.Line.{Line}
use Rattle.xl_script.specs.Lines.{lines_of}
use Rattle.xl_judging.proofs.Calling.{AreGathered, gathered_more}
use Rattle.xl_judging.proofs.calls.script_calls.Goals as goal

pub loop-session-preserved : goal.loop-session-preserved
loop-session-preserved c =
    subst (AreGathered c.args.script.now (c.loop-session.session + 1)) (sym c.in_ok-push.ensures.items)
    (gathered_more c.args.script.now c.loop-session.session _ _ c.loop-session.invariant
    (c.in_ok-session_calls.ensures ∙ ap (λ (ls : List Line). calls_of (lines_of ls)) c.lines.ensures))
