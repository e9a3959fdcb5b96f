-- The history goes on by the call, if at all.
use Rattle.std.proofs.Common.{[], sym, subst}
use Rattle.spec_history.specs.History.{asked}
use Rattle.spec_tables.specs.Agrees.{Agrees}
use Rattle.spec_tables.specs.Tables.{expected_tables}
use Rattle.xl_calls.specs.Calls.{call_of}
use Rattle.xl_calls.specs.Replies.{reply_of}
use Rattle.core_rows.proofs.Outs.{stay_asked}
use Rattle.core_rows.proofs.bench.submit.Goals as goal

pub returns : goal.returns
returns g c =
    stay_asked c.args.core.now c.submit.new.self c.submit.result 0 (call_of c.args.call) c.version-seen.result
    (λ reply. expected_tables [] (asked (call_of c.args.call) []) (reply_of reply)) reply_of c.know_right.ensures
    (c.submit.ensures.answered [] (subst (λ slots. Agrees slots []) (sym c.requires.desk) tt)) c.submit.ensures.as_before
