use Rattle.xl_calls.specs.Replies.{reply_of}
use Rattle.xl_studio.specs.Seats.{base_of, opening_shelf, known_by}
use Rattle.xl_sessions.proofs.Begun.{save_begun}
use Rattle.xl_sessions.proofs.Stops.{memory_stop, no_ok, save_stop, save_told}
use Rattle.xl_sessions.proofs.setting.Setting.play_save.Goals as goal

pub returns-in_err-reply : goal.returns-in_err-reply
returns-in_err-reply g c = λ chest digests.
    let studio = c.args.self.now.studio.now in
    let answered = c.make_save.ensures in
    record {
      keeps = answered.keeps;
      begun = λ filters agrees. save_begun _ reply_of c.make_save.result g.D.Shelf.shelf_state (opening_shelf studio) (base_of studio)
          c.args.self.now.session (known_by c.args.seat.now) (known_by c.make_save.new.seat) c.requires.of answered.saved
          answered.failed filters;
      made = no_ok _ c.from_residual.result c.from_residual.ensures.0;
      count = answered.count;
      full = memory_stop _ c.from_residual.result c.from_residual.ensures.1;
    }

pub returns : goal.returns
returns g c = λ chest digests.
    let studio = c.args.self.now.studio.now in
    let answered = c.make_save.ensures in
    record {
      keeps = answered.keeps;
      begun = λ filters agrees. save_begun _ reply_of c.make_save.result g.D.Shelf.shelf_state (opening_shelf studio) (base_of studio)
          c.args.self.now.session (known_by c.args.seat.now) (known_by c.make_save.new.seat) c.requires.of answered.saved
          answered.failed filters;
      made = save_told c.check_printed.result chest digests (reply_of c.in_ok-reply.reply) c.in_ok-reply.ensures.saved
          c.check_printed.ensures.printed;
      count = answered.count;
      full = save_stop c.check_printed.result c.check_printed.ensures.full c.in_ok-reply.ensures.full;
    }
