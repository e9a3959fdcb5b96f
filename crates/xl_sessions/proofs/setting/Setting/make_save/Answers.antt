use Rattle.xl_calls.specs.Replies.{reply_of}
use Rattle.xl_studio.specs.Seats.{base_of, opening_shelf, known_by}
use Rattle.xl_sessions.proofs.Fulls.{count_after_save, full_after_save}
use Rattle.xl_sessions.proofs.Made.{of_after_save}
use Rattle.xl_sessions.proofs.setting.Setting.make_save.Goals as goal

pub returns : goal.returns
returns g c =
    let see = g.D.Shelf.shelf_state in
    let studio = c.args.self.now.studio.now in
    let session = c.args.self.now.session in
    let old = known_by c.args.seat.now in
    let new = known_by c.save-reply.new.seat in
    let saved = c.save-reply.ensures in
    record {
      keeps = record {
        goes_on = saved.goes_on;
        of = of_after_save _ reply_of c.save-reply.result see (opening_shelf studio) (base_of studio) session old new saved.saved
            saved.failed c.requires.of;
      };
      saved = saved.saved;
      failed = saved.failed;
      count = count_after_save _ reply_of c.save-reply.result see (opening_shelf studio) (base_of studio) session old new saved.saved
          saved.failed;
      full = full_after_save _ reply_of c.save-reply.result see (opening_shelf studio) (base_of studio) session old new saved.saved;
    }
