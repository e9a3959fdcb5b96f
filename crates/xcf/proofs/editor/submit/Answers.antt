-- No filter is asked, so that the reply is the machine's.
use Rattle.std.proofs.Common.{[], sym, subst}
use Rattle.std.proofs.lemmas.Result.{IfOk-weaker}
use Rattle.spec_tables.specs.Agrees.{Agrees, AreThere}
use Rattle.spec_history.specs.Limited.{edits_of}
use Rattle.xl_calls.specs.Calls.{call_of}
use Rattle.xl_calls.specs.Replies.{reply_of}
use Rattle.xcf.proofs.Asking.{answered, call_is_there}
use Rattle.xcf.proofs.editor.submit.Goals as goal

pub submit-requires-clause-there : goal.submit-requires-clause-there
submit-requires-clause-there g c κs within =
    subst (λ slots. AreThere slots (edits_of (call_of c.args.call))) (sym c.requires.desk)
    (call_is_there (call_of c.args.call) c.requires.plain)

pub returns-clause-answered : goal.returns-clause-answered
returns-clause-answered g c =
    IfOk-weaker c.submit.result _ _ (λ reply is.
    answered c.args.core.now c.submit.new.self 0 (call_of c.args.call) c.version-seen.result (reply_of reply) c.requires.plain is)
    (c.submit.ensures.answered [] (subst (λ slots. Agrees slots []) (sym c.requires.desk) tt))
