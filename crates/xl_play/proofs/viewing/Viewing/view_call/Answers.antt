use Rattle.std.proofs.Common.{◌∙◌, ap, sym, subst, string_bytes}
use Rattle.std.proofs.lemmas.Result.{on_ok_weaker}
use Rattle.spec_tables.proofs.Chests.{some_list}
use Rattle.xl_calls.specs.Calls.{call_of}
use Rattle.xl_calls.specs.Replies.{reply_of}
use Rattle.xl_window.proofs.Going.{goes_further, goes_submitted}
use Rattle.xl_play.specs.Windows.{IsLastTile, window_digest}
use Rattle.xl_play.proofs.Saved.{call_between}
use Rattle.xl_play.proofs.Submitted.{HasRoom, chest_called, chest_keeps, chest_text}
use Rattle.xl_play.proofs.Windowed.{last_tile, call_shown}
use Rattle.xl_play.proofs.viewing.Viewing.view_call.Goals as goal

pub returns-clause-between : goal.returns-clause-between
returns-clause-between g c =
    call_between _ c.args.core.now c.submit.new.self 0 (call_of c.args.call) c.version-seen.result
    (reply_of c.in_ok-reply.reply)
    (λ filters agrees. c.in_ok-reply.ensures.answered filters agrees) c.in_ok-reply.ensures.shelf c.requires.inside
    c.in_ok-reply.ensures.legal

pub returns-in_err-digest-clause-between : goal.returns-in_err-digest-clause-between
returns-in_err-digest-clause-between g c =
    call_between _ c.args.core.now c.submit.new.self 0 (call_of c.args.call) c.version-seen.result
    (reply_of c.in_ok-reply.reply)
    (λ filters agrees. c.in_ok-reply.ensures.answered filters agrees) c.in_ok-reply.ensures.shelf c.requires.inside
    c.in_ok-reply.ensures.legal

pub reply_digest-requires-clause-history : goal.reply_digest-requires-clause-history
reply_digest-requires-clause-history g c κs within =
    let some = some_list _ in
    goes_further c.args.viewer.now.seen c.args.core.now.history c.submit.new.self.history c.requires.history
    (goes_submitted c.args.core.now c.submit.new.self 0 (call_of c.args.call) c.version-seen.result _ (reply_of c.in_ok-reply.reply)
    (c.in_ok-reply.ensures.answered some.0 some.1))

pub reply_digest-requires-clause-last : goal.reply_digest-requires-clause-last
reply_digest-requires-clause-last g c κs within =
    let room : HasRoom c.args.core.now.history = record { free = c.requires.few; ended = c.requires.shown.played.ended } in
    subst (λ place. IsLastTile c.submit.new.self.history place (reply_of c.in_ok-reply.reply)) (sym c.asked_tile-tile.ensures)
    (last_tile _ c.args.core.now c.submit.new.self (call_of c.args.call) c.version-seen.result (reply_of c.in_ok-reply.reply) room
    c.requires.shown.played.legal (λ filters agrees. c.in_ok-reply.ensures.answered filters agrees))

pub print_reply-requires : goal.print_reply-requires
print_reply-requires g c =
    let room : HasRoom c.args.core.now.history = record { free = c.requires.few; ended = c.requires.shown.played.ended } in
    chest_text _ c.args.core.now 0 (call_of c.args.call) c.version-seen.result c.in_ok-reply.reply
    c.submit.new.self room c.requires.shown.played.legal c.version-seen.ensures
    (λ filters agrees. c.in_ok-reply.ensures.answered filters agrees)

pub returns-clause-called : goal.returns-clause-called
returns-clause-called g c =
    let room : HasRoom c.args.core.now.history = record { free = c.requires.few; ended = c.requires.shown.played.ended } in
    on_ok_weaker c.print_reply.result
    (λ e. chest_called _ _ c.args.core.now 0 (call_of c.args.call) c.version-seen.result
    (reply_of c.in_ok-reply.reply) c.submit.new.self room
    (λ filters agrees. c.in_ok-reply.ensures.answered filters agrees) c.in_ok-reply.ensures.chest)
    c.print_reply.ensures.ok

pub returns-clause-kept : goal.returns-clause-kept
returns-clause-kept g c =
    on_ok_weaker c.print_reply.result
    (λ e. chest_keeps _ c.args.core.now 0 (call_of c.args.call) c.version-seen.result
    (reply_of c.in_ok-reply.reply) c.submit.new.self c.requires.kept c.requires.shown.played.legal
    c.version-seen.ensures (λ filters agrees. c.in_ok-reply.ensures.answered filters agrees) c.in_ok-reply.ensures.right)
    c.print_reply.ensures.ok

pub returns-clause-history : goal.returns-clause-history
returns-clause-history g c = on_ok_weaker c.print_reply.result (λ e. c.in_ok-digest.ensures.history) c.print_reply.ensures.ok

pub returns-clause-shown : goal.returns-clause-shown
returns-clause-shown g c =
    let room : HasRoom c.args.core.now.history = record { free = c.requires.few; ended = c.requires.shown.played.ended } in
    let new = c.submit.new.self in
    let digest = c.as_str.ensures.value ∙ c.in_ok-digest.ensures.digest
    ∙ ap (λ place. window_digest new.history c.args.self.now.cols c.args.self.now.rows place (reply_of c.in_ok-reply.reply)) c.asked_tile-tile.ensures in
    on_ok_weaker c.print_reply.result
    (λ e. call_shown _ c.args.core.now new (call_of c.args.call) c.version-seen.result
    (reply_of c.in_ok-reply.reply) c.args.self.now.cols c.args.self.now.rows c.args.transcript.now.index c.submit.new.desk.out c.as_str.result.now
    (string_bytes c.args.transcript.now.text) (string_bytes c.print_reply.new.out) room c.requires.kept c.version-seen.ensures
    c.requires.shown
    (λ filters agrees. c.in_ok-reply.ensures.answered filters agrees) c.in_ok-reply.ensures.legal c.in_ok-reply.ensures.shown
    c.requires.index c.requires.viewed digest e)
    c.print_reply.ensures.ok
