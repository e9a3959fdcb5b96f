-- No filter is asked, so that the reply is the machine's.
use Rattle.std.proofs.Common.{sym, subst}
use Rattle.std.specs.Arc.{arc_value}
use Rattle.spec_history.specs.Limited.{edits_of}
use Rattle.spec_tables.specs.Agrees.{AreThere}
use Rattle.xl_calls.specs.Calls.{call_of}
use Rattle.xcf_sessions.proofs.Filterless.{there}
use Rattle.xcf_sessions.proofs.Following.{answered, heard}
use Rattle.xcf_sessions.proofs.session.Session.submit.Goals as goal

pub call-requires-clause-there : goal.call-requires-clause-there
call-requires-clause-there g c κs within =
    subst (λ slots. AreThere slots (edits_of (call_of c.args.call))) (sym c.requires.desk)
    (there (call_of c.args.call) c.requires.filterless)

pub returns-clause-answered : goal.returns-clause-answered
returns-clause-answered g c =
    answered c.self.inside.number c.deref.result.now _ (call_of c.args.call) c.call.result _ _ _ _ _ _ _ _ c.args.self.now
    c.deref.ensures c.self.view_is c.requires.desk c.requires.filterless c.call.ensures

pub returns-clause-heard : goal.returns-clause-heard
returns-clause-heard g c =
    heard _ c.self.inside.number c.deref.result.now (arc_value c.self.inside.studio) c.call.result c.self.inside.seat c.call.new.seat
    c.args.self.now c.deref.ensures c.self.view_is c.call.ensures.goes_on c.call.ensures.failed
