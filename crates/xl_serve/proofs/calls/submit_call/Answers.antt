use Rattle.std.proofs.Common.{arith}
use Rattle.std.proofs.lemmas.Result.{on_err_weaker}
use Rattle.xl_calls.specs.Calls.{call_of}
use Rattle.xl_calls.specs.Replies.{reply_of}
use Rattle.xl_serve.proofs.Seats.{seen_is_there}
use Rattle.xl_serve.proofs.Submitting.{submit_goes_on, submit_replied, submit_text}
use Rattle.xl_serve.proofs.calls.submit_call.Goals as goal

pub submit-requires-clause-seen : goal.submit-requires-clause-seen
submit-requires-clause-seen g c κs within =
    let there = seen_is_there c.args.core.now.history.entries c.args.session in
    let is = c.requires.seen in
    omega (arith, there, is)

pub returns : goal.returns
returns g c =
    let told = c.submit.ensures in
    let old = c.args.core.now in
    let new = c.submit.new.self in
    record {
      goes_on = submit_goes_on old new c.args.session (call_of c.args.call) c.args.seen _ c.submit.result reply_of c.requires.ready
          c.requires.room (λ filters agrees. told.answered filters agrees) told.shelf told.legal told.as_before;
      replied = submit_replied old new c.args.session (call_of c.args.call) c.args.seen _ _ c.submit.result reply_of
          c.submit.new.desk.out c.requires.ready c.requires.room c.requires.seen (λ filters agrees. told.answered filters agrees)
          told.chest told.shown;
      text = submit_text old new c.args.session (call_of c.args.call) c.args.seen _ c.submit.result c.requires.ready c.requires.room
          c.requires.seen (λ filters agrees. told.answered filters agrees);
      as_before = on_err_weaker c.submit.result (λ same. same.history) told.as_before;
    }
