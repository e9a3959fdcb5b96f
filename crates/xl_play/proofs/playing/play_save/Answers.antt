use Rattle.std.proofs.Common.{[], refl, string_bytes}
use Rattle.std.proofs.lemmas.Result.{on_ok_weaker}
use Rattle.spec_script.specs.Script.{save}
use Rattle.xl_calls.specs.Replies.{reply_of}
use Rattle.xl_play.proofs.Lined.{line_cut, line_made, on_ok_so, save_begun}
use Rattle.xl_play.proofs.Saved.{saved_printed}
use Rattle.xl_play.proofs.playing.play_save.Goals as goal

pub returns-in_err-reply : goal.returns-in_err-reply
returns-in_err-reply g c = λ chest.
    line_cut c.args.core.now c.save_latest.new.core save chest chest _ c.from_residual.result c.from_residual.ensures.0
    c.in_err-reply.ensures.between
    (save_begun c.args.core.now.history c.save_latest.new.core.history chest c.in_err-reply.ensures.begun)

pub returns : goal.returns
returns g c = λ chest.
    let saved = c.in_ok-reply.ensures in
    line_made c.args.core.now c.save_latest.new.core save chest chest _ c.print_reply.result saved.between
    ((reply_of c.in_ok-reply.reply, saved.saved), refl)
    (on_ok_so c.print_reply.result saved.kept)
    (on_ok_weaker c.print_reply.result
    (λ e. saved_printed c.args.core.now.history c.save_latest.new.core.history c.in_ok-reply.reply
    (string_bytes c.args.transcript.now.text) c.args.transcript.now.index [] (string_bytes c.print_reply.new.out)
    c.requires.played saved.text saved.saved saved.between.legal c.requires.index_is refl e)
    c.print_reply.ensures.ok)
