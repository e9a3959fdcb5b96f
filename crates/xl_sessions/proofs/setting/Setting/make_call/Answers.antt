use Rattle.xl_calls.specs.Calls.{call_of}
use Rattle.xl_calls.specs.Replies.{reply_of}
use Rattle.xl_studio.specs.Seats.{base_of, known_by}
use Rattle.xl_studio.proofs.Answered.{goes_on_then}
use Rattle.xl_sessions.proofs.Fulls.{count_after_call, full_after_call}
use Rattle.xl_sessions.proofs.Made.{of_after_call}
use Rattle.xl_sessions.proofs.Refreshed.{replied_on, failed_on}
use Rattle.xl_sessions.proofs.setting.Setting.make_call.Goals as goal

pub returns : goal.returns
returns g c =
    let studio = c.args.self.now.studio.now in
    let session = c.args.self.now.session in
    let call = call_of c.args.call in
    let heard = c.refresh_asked.ensures.heard in
    let answered = c.call-reply.ensures in
    let legal = answered.goes_on.seat.front.legal in
    let old = known_by c.args.seat.now in
    let new = known_by c.call-reply.new.seat in
    let replied = replied_on _ reply_of c.call-reply.result (base_of studio) session call _ _ c.call-reply.new.desk.out old
    (known_by c.refresh_asked.new.seat) new heard c.refresh_asked.ensures.no_tile legal answered.replied in
    let failed = failed_on c.call-reply.result old (known_by c.refresh_asked.new.seat) new heard answered.failed in
    record {
      keeps = record {
        goes_on = goes_on_then studio c.args.seat.now c.refresh_asked.new.seat c.call-reply.new.seat
            c.refresh_asked.ensures.goes_on answered.goes_on;
        of = of_after_call _ reply_of c.call-reply.result (base_of studio) session call _ _ _ old new replied failed c.requires.seat.of;
      };
      replied = replied;
      failed = failed;
      count = count_after_call _ reply_of c.call-reply.result (base_of studio) session call _ _ _ old new replied failed;
      full = full_after_call _ reply_of c.call-reply.result (base_of studio) session call _ _ _ old new replied legal;
    }
