use Rattle.std.proofs.Common.{◌∙◌}
use Rattle.std.proofs.lemmas.Result.{IfOk-weaker}
use Rattle.xl_calls.specs.Replies.{reply_of}
use Rattle.xl_serve.proofs.Playing.{save_played_by, save_cut_by, on_err}
use Rattle.xl_serve.proofs.saves.play_save.Goals as goal

pub returns-clause-played : goal.returns-clause-played
returns-clause-played g c =
    let made = c.in_ok-made.made in
    IfOk-weaker c.save_lines.result _ _
    (λ text is chest.
    save_played_by c.args.core.now.history c.save_now.new.core.history c.args.session c.args.seen.now made.version chest made.how
    (reply_of made.reply) c.last_index-index.result text.items c.in_ok-made.ensures.version c.in_ok-made.ensures.reply
    c.in_ok-made.ensures.saved (λ es e at. c.last_index-index.ensures es e (c.entries.ensures ∙ at)) is)
    c.save_lines.ensures

pub returns-clause-cut : goal.returns-clause-cut
returns-clause-cut g c =
    let made = c.in_ok-made.made in
    on_err (save_cut_by c.args.core.now.history c.save_now.new.core.history c.args.session made.version made.how
    (reply_of made.reply) c.in_ok-made.ensures.version c.in_ok-made.ensures.reply c.in_ok-made.ensures.saved) c.save_lines.result
