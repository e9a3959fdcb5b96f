use Rattle.std.proofs.Common.{◌∙◌, ap, map, string_bytes, ◌++◌}
use Rattle.spec_history.specs.History.{mine}
use Rattle.xl_run.specs.Printing.{lines_with}
use Rattle.xl_run.proofs.Lines.{sessions_more}
use Rattle.xl_run.proofs.printing.print_all.Goals as goal

pub loop-session-preserved : goal.loop-session-preserved
loop-session-preserved c =
    let es = c.args.entries.now in
    let session = c.loop-session.session in
    sessions_more (map (λ ds. map string_bytes ds.items) c.args.digests.now) es session (string_bytes c.loop-session.text)
    (string_bytes c.print_session.new.text) c.loop-session.invariant
    (c.in_ok-print_session.ensures
    ∙ ap (λ own. string_bytes c.loop-session.text ++ lines_with own (mine es session)) c.digests_at.ensures)
