use Rattle.std.proofs.Common.{ap, arith, refl}
use Rattle.xl_calls.specs.Calls.{call_of}
use Rattle.xl_calls.specs.Replies.{reply_of}
use Rattle.xl_studio.specs.Seats.{base_of, known_by}
use Rattle.xl_sessions.specs.Playing.{said}
use Rattle.xl_sessions.proofs.Begun.{call_begun}
use Rattle.xl_sessions.proofs.Fulls.{full_stop}
use Rattle.xl_sessions.proofs.Stops.{at_most, memory_stop, no_ok}
use Rattle.xl_sessions.proofs.setting.Setting.play_call.Goals as goal

pub returns-in_err-reply : goal.returns-in_err-reply
returns-in_err-reply g c =
    let studio = c.args.self.now.studio.now in
    let session = c.args.self.now.session in
    let old = known_by c.args.seat.now in
    let new = known_by c.make_call.new.seat in
    let answered = c.make_call.ensures in
    record {
      keeps = answered.keeps;
      begun = call_begun _ reply_of c.make_call.result (base_of studio) session (call_of c.args.call) _ _ _ old new c.requires.seat.of
          answered.replied answered.failed;
      made = no_ok _ c.from_residual.result c.from_residual.ensures.0;
      count = at_most 1 2 old new (omega arith) answered.count;
      full = memory_stop _ c.from_residual.result c.from_residual.ensures.1;
    }

pub returns-in_err-check_printed : goal.returns-in_err-check_printed
returns-in_err-check_printed g c =
    let studio = c.args.self.now.studio.now in
    let session = c.args.self.now.session in
    let old = known_by c.args.seat.now in
    let new = known_by c.make_call.new.seat in
    let answered = c.make_call.ensures in
    record {
      keeps = answered.keeps;
      begun = call_begun _ reply_of c.make_call.result (base_of studio) session (call_of c.args.call) _ _ _ old new c.requires.seat.of
          answered.replied answered.failed;
      made = no_ok _ c.from_residual-in_err-check_printed.result c.from_residual-in_err-check_printed.ensures.0;
      count = at_most 1 2 old new (omega arith) answered.count;
      full = full_stop c.from_residual-in_err-check_printed.result _ _ c.from_residual-in_err-check_printed.ensures.1
          (λ so. (refl, c.in_ok-reply.ensures.full (c.in_err-check_printed.ensures.full so)));
    }

pub returns-in_err-say : goal.returns-in_err-say
returns-in_err-say g c =
    let studio = c.args.self.now.studio.now in
    let session = c.args.self.now.session in
    let old = known_by c.args.seat.now in
    let new = known_by c.make_call.new.seat in
    let answered = c.make_call.ensures in
    record {
      keeps = answered.keeps;
      begun = call_begun _ reply_of c.make_call.result (base_of studio) session (call_of c.args.call) _ _ _ old new c.requires.seat.of
          answered.replied answered.failed;
      made = no_ok _ c.from_residual-in_err-say.result c.from_residual-in_err-say.ensures.0;
      count = at_most 1 2 old new (omega arith) answered.count;
      full = memory_stop _ c.from_residual-in_err-say.result c.from_residual-in_err-say.ensures.1;
    }

pub returns : goal.returns
returns g c =
    let studio = c.args.self.now.studio.now in
    let session = c.args.self.now.session in
    let old = known_by c.args.seat.now in
    let new = known_by c.make_call.new.seat in
    let answered = c.make_call.ensures in
    record {
      keeps = answered.keeps;
      begun = call_begun _ reply_of c.make_call.result (base_of studio) session (call_of c.args.call) _ _ _ old new c.requires.seat.of
          answered.replied answered.failed;
      made = (
        said c.asks_tile-asks.result (reply_of c.in_ok-reply.reply) c.make_call.new.desk.out,
        c.in_ok-say.ensures,
        record {
          reply = reply_of c.in_ok-reply.reply;
          bytes = c.make_call.new.desk.out;
          replied = c.in_ok-reply.ensures.replied;
          printed = c.in_ok-check_printed.ensures.printed;
          digests_are = ap (λ b. said b (reply_of c.in_ok-reply.reply) c.make_call.new.desk.out) c.asks_tile-asks.ensures;
        },
      );
      count = at_most 1 2 old new (omega arith) answered.count;
      full = tt;
    }
