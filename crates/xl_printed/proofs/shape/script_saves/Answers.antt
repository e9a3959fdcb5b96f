use Rattle.std.proofs.Common.{◌+◌, List, sym, ◌∙◌, ap, subst}
use Rattle.spec_text.specs.Text.{calls_of}
use Rattle.xl_script.specs.declared.script.Line.{Line}
use Rattle.xl_script.specs.Lines.{lines_of}
use Rattle.xl_printed.specs.Merging.{saves_along}
use Rattle.xl_printed.proofs.Shaping.{AreListed, listed_more}
use Rattle.xl_printed.proofs.shape.script_saves.Goals as goal

pub loop-session-preserved : goal.loop-session-preserved
loop-session-preserved c =
    subst (AreListed c.args.script.now (c.loop-session.session + 1)) (sym c.in_ok-push.ensures.items)
    (listed_more c.args.script.now c.loop-session.session _ _ c.loop-session.invariant
    (c.in_ok-session_saves.ensures ∙ ap (λ (ls : List Line). saves_along (calls_of (lines_of ls))) c.lines.ensures))
