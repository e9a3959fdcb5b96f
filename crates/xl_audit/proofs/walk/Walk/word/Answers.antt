-- The word passes, and the walk has come through its entry, or it fails.
use Rattle.std.proofs.Common.{rules, ◌∙◌, ap}
use Rattle.std.proofs.lemmas.Result.{IfOk-weaker}
use Rattle.spec_script.specs.Script as lines
use Rattle.spec_audit.specs.Output.{Printed}
use Rattle.xl_desk.specs.Calls.{call_of}
use Rattle.xl_desk.specs.Replies.{reply_of}
use Rattle.xl_filters.specs.Chests.{states_in}
use Rattle.xl_audit.proofs.Worded.{word_started, word_ended, word_called, word_peeked}
use Rattle.xl_audit.proofs.walk.Walk.word.Goals as goal

pub returns-then-word-clause-judged : goal.returns-then-word-clause-judged
returns-then-word-clause-judged g c = λ s earlier calls next has agrees wants.
    word_ended s c.args.output.now earlier c.args.word c.args.self.now c.end.new.self
    (states_in (λ z. (goal.PointFilter-dyn g z).state z.1) c.args.desk.now.chest) c.end.result (reply_of c.printed.inside.reply)
    next has agrees c.if-word.true (ap (λ (p : Printed). p.reply) (c.printed.view_is ∙ c.printed-printed.ensures)) c.end.ensures.judged
    c.end.ensures.made c.end.ensures.seen c.end.ensures.standing c.end.ensures.versions c.end.ensures.out

pub returns-in_default-clause-judged : goal.returns-in_default-clause-judged
returns-in_default-clause-judged g c = λ s earlier calls next has agrees wants.
    word_started s c.args.output.now earlier c.args.word c.args.calls.now c.args.self.now c.start.new.self
    (states_in (λ z. (goal.PointFilter-dyn g z).state z.1) c.args.desk.now.chest) calls next has agrees c.if-word.false
    c.in_default.ensures c.start.ensures.made c.start.ensures.seen c.start.ensures.standing c.start.ensures.versions c.start.ensures.out

pub returns-in-Some-tile_peeked-clause-judged : goal.returns-in-Some-tile_peeked-clause-judged
returns-in-Some-tile_peeked-clause-judged g c =
    IfOk-weaker c.peek.result _ _
    (λ passed peeked. λ s earlier calls next has agrees wants.
    word_peeked s c.args.output.now earlier c.args.word c.args.calls.now c.args.self.now c.peek.new.self
    c.in-Some-tile_peeked.tile.0.0 c.in-Some-tile_peeked.tile.1
    (states_in (λ z. (goal.PointFilter-dyn g z).state z.1) c.args.desk.now.chest) passed _ calls next has agrees wants c.if-word.false
    (c.in-Some.ensures ∙ ap lines.call c.in-Some-tile_peeked.ensures) peeked (search rules)) c.peek.ensures

pub returns-in-None-clause-judged : goal.returns-in-None-clause-judged
returns-in-None-clause-judged g c =
    IfOk-weaker c.call.result _ _
    (λ passed called. λ s earlier calls next has agrees wants.
    word_called s c.args.output.now earlier c.args.word c.args.calls.now c.args.self.now c.call.new.self
    (call_of c.in-Some.call.now) (states_in (λ z. (goal.PointFilter-dyn g z).state z.1) c.args.desk.now.chest)
    (states_in (λ z. (goal.PointFilter-dyn g z).state z.1) c.call.new.desk.chest) passed _ calls next has agrees c.if-word.false
    c.requires.fit c.in-Some.ensures c.in-None.ensures called (search rules)) c.call.ensures
