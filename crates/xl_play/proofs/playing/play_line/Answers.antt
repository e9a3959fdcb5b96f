use Rattle.std.proofs.Common.{[], ◌∙◌, sym, ap, ◌+◌}
use Rattle.spec_script.specs.Script.{save}
use Rattle.xl_calls.specs.Calls.{call_of}
use Rattle.xl_play.proofs.Lined.{line_cut}
use Rattle.xl_play.proofs.UnderWay.{called_next, saved_next}
use Rattle.xl_play.proofs.playing.play_line.Goals as goal

pub returns-in_ok-play_call-in-Call-clause-next : goal.returns-in_ok-play_call-in-Call-clause-next
returns-in_ok-play_call-in-Call-clause-next g c =
    ap (λ n. n + 1) c.requires.can.index_is
    ∙ sym (called_next 0 c.args.core.now.history c.play_call.new.core.history _ _ (call_of c.in-Call.call)
    c.in_ok-play_call-in-Call.ensures.made)

pub returns-in_err-play_save-in-Save-clause-comes : goal.returns-in_err-play_save-in-Save-clause-comes
returns-in_err-play_save-in-Save-clause-comes g c =
    let comes = c.in_err-play_save-in-Save.ensures _ in
    rw c.in-Save.is
    (line_cut c.args.core.now c.play_save.new.core save _ _ _ c.from_residual-in_err-play_save-in-Save.result
    c.from_residual-in_err-play_save-in-Save.ensures.0 comes.between comes.begun)

pub returns-in_ok-play_save-in-Save-clause-comes : goal.returns-in_ok-play_save-in-Save-clause-comes
returns-in_ok-play_save-in-Save-clause-comes g c = rw c.in-Save.is (c.in_ok-play_save-in-Save.ensures _)

pub returns-in_ok-play_save-in-Save-clause-next : goal.returns-in_ok-play_save-in-Save-clause-next
returns-in_ok-play_save-in-Save-clause-next g c =
    let saved = (c.in_ok-play_save-in-Save.ensures []).made.0 in
    ap (λ n. n + 1) c.requires.can.index_is
    ∙ sym (saved_next c.args.core.now.history c.play_save.new.core.history saved.0 saved.1)
