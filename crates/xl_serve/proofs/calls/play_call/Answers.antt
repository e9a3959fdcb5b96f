use Rattle.std.proofs.Common.{◌∙◌, refl}
use Rattle.std.proofs.lemmas.Result.{IfOk-weaker}
use Rattle.xl_calls.specs.Calls.{call_of}
use Rattle.xl_calls.specs.Replies.{reply_of}
use Rattle.xl_play.specs.Playing.{shown_of}
use Rattle.xl_serve.proofs.Playing.{call_played, call_cut, on_err}
use Rattle.xl_serve.proofs.calls.play_call.Goals as goal

pub returns-clause-played : goal.returns-clause-played
returns-clause-played g c =
    let new = c.submit_call.new.core in
    let reply = reply_of c.in_ok-reply.reply in
    let bytes = c.submit_call.new.desk.out in
    IfOk-weaker c.reply_line.result _ _
    (λ text is.
    call_played c.args.core.now.history new.history c.args.session (call_of c.args.call) c.args.seen.now c.version.result _ _ bytes reply
    c.last_index-index.result (shown_of reply bytes) text.items c.in_ok-reply.ensures.replied c.version.ensures
    (λ es e at. c.last_index-index.ensures es e (c.entries.ensures ∙ at)) refl is)
    c.reply_line.ensures

pub returns-clause-cut : goal.returns-clause-cut
returns-clause-cut g c =
    let new = c.submit_call.new.core in
    on_err (call_cut c.args.core.now.history new.history c.args.session (call_of c.args.call) c.args.seen.now c.version.result _ _
    c.submit_call.new.desk.out (reply_of c.in_ok-reply.reply) c.in_ok-reply.ensures.replied) c.reply_line.result
