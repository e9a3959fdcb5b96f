use Rattle.std.proofs.Common.{◌∙◌, inr, string_bytes}
use Rattle.std.proofs.lemmas.Result.{on_ok_weaker}
use Rattle.spec_script.specs.Script.{call}
use Rattle.xl_calls.specs.Calls.{call_of}
use Rattle.xl_calls.specs.Replies.{reply_of}
use Rattle.xl_play.proofs.Lined.{line_cut, line_none, line_made, on_ok_so}
use Rattle.xl_play.proofs.Saved.{call_between}
use Rattle.xl_play.proofs.Submitted.{HasRoom, chest_called, chest_keeps, chest_printed, chest_text}
use Rattle.xl_play.proofs.playing.play_call.Goals as goal

pub print_reply-requires : goal.print_reply-requires
print_reply-requires g c =
    let can = c.requires.can in
    let room : HasRoom c.args.core.now.history = record { free = can.few; ended = can.played.ended } in
    chest_text _ c.args.core.now 0 (call_of c.args.call) c.version-seen.result c.in_ok-reply.reply
    c.submit.new.self room can.played.legal c.version-seen.ensures
    (λ filters agrees. c.in_ok-reply.ensures.answered filters agrees)

pub returns-in_err-reply : goal.returns-in_err-reply
returns-in_err-reply g c =
    line_none c.args.core.now c.submit.new.self (call (call_of c.args.call)) _ _ _ c.from_residual.result c.from_residual.ensures.0
    c.in_err-reply.ensures.as_before c.requires.can.inside c.requires.can.played.legal

pub returns-in_err-digest : goal.returns-in_err-digest
returns-in_err-digest g c =
    let can = c.requires.can in
    let new = c.submit.new.self in
    let made = call_of c.args.call in
    let room : HasRoom c.args.core.now.history = record { free = can.few; ended = can.played.ended } in
    line_cut c.args.core.now new (call made) _ _ _ c.from_residual-in_err-digest.result c.from_residual-in_err-digest.ensures.0
    (call_between _ c.args.core.now new 0 made c.version-seen.result (reply_of c.in_ok-reply.reply)
    (λ filters agrees. c.in_ok-reply.ensures.answered filters agrees) c.in_ok-reply.ensures.shelf can.inside
    c.in_ok-reply.ensures.legal)
    (inr (chest_called _ _ c.args.core.now 0 made c.version-seen.result (reply_of c.in_ok-reply.reply) new room
    (λ filters agrees. c.in_ok-reply.ensures.answered filters agrees) c.in_ok-reply.ensures.chest))

pub returns : goal.returns
returns g c =
    let can = c.requires.can in
    let new = c.submit.new.self in
    let made = call_of c.args.call in
    let room : HasRoom c.args.core.now.history = record { free = can.few; ended = can.played.ended } in
    line_made c.args.core.now new (call made) _ _ _ c.print_reply.result
    (call_between _ c.args.core.now new 0 made c.version-seen.result (reply_of c.in_ok-reply.reply)
    (λ filters agrees. c.in_ok-reply.ensures.answered filters agrees) c.in_ok-reply.ensures.shelf can.inside
    c.in_ok-reply.ensures.legal)
    (chest_called _ _ c.args.core.now 0 made c.version-seen.result (reply_of c.in_ok-reply.reply) new room
    (λ filters agrees. c.in_ok-reply.ensures.answered filters agrees) c.in_ok-reply.ensures.chest)
    (on_ok_so c.print_reply.result
    (chest_keeps _ c.args.core.now 0 made c.version-seen.result (reply_of c.in_ok-reply.reply) new can.kept can.played.legal
    c.version-seen.ensures (λ filters agrees. c.in_ok-reply.ensures.answered filters agrees) c.in_ok-reply.ensures.right))
    (on_ok_weaker c.print_reply.result
    (λ e. chest_printed _ c.args.core.now made c.version-seen.result
    (reply_of c.in_ok-reply.reply) new c.submit.new.desk.out (string_bytes c.args.transcript.now.text)
    c.args.transcript.now.index c.as_str.result.now (string_bytes c.print_reply.new.out) room can.kept c.version-seen.ensures
    can.played
    (λ filters agrees. c.in_ok-reply.ensures.answered filters agrees) c.in_ok-reply.ensures.legal c.in_ok-reply.ensures.shown
    can.index_is (c.as_str.ensures.value ∙ c.in_ok-digest.ensures) e)
    c.print_reply.ensures.ok)
