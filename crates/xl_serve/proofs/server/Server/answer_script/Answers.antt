use Rattle.std.proofs.Common.{map, ap, ◌∙◌, inl, refl}
use Rattle.std.proofs.lemmas.Result.{IfOk-weaker}
use Rattle.xl_filters.specs.Chests.{states_in}
use Rattle.xl_script.specs.Heard.{asks_is}
use Rattle.xl_script.specs.Lines.{line_of}
use Rattle.xl_serve.specs.Serving.{now_of}
use Rattle.xl_serve.proofs.Answering.{plays_eight, plays_fit, plays_seen, plays_made, plays_on, nothing_on, bad_on, viewed_still}
use Rattle.xl_serve.proofs.Plain.{is_nothing, is_bad}
use Rattle.xl_serve.proofs.server.Server.answer_script.Goals as goal

pub play-requires-clause-session : goal.play-requires-clause-session
play-requires-clause-session g c κs within =
    plays_eight c.args.number c.args.line.now _ (asks_is c.in_ok-session.field-0) c.hear.new.self c.in_ok-session.ensures
    c.requires.no_request c.in-Plays.session (line_of c.in-Plays.line) (ap asks_is c.in-Plays.is) c.requires.stands

pub play-requires-clause-seen : goal.play-requires-clause-seen
play-requires-clause-seen g c κs within =
    plays_seen c.args.number c.args.line.now _ (asks_is c.in_ok-session.field-0) c.hear.new.self c.in_ok-session.ensures
    c.requires.no_request c.in-Plays.session (line_of c.in-Plays.line) (ap asks_is c.in-Plays.is) c.requires.stands

pub play-requires-clause-fit : goal.play-requires-clause-fit
play-requires-clause-fit g c κs within =
    plays_fit c.args.number c.args.line.now _ (asks_is c.in_ok-session.field-0) c.hear.new.self c.in_ok-session.ensures
    c.requires.no_request c.in-Plays.session (line_of c.in-Plays.line) (ap asks_is c.in-Plays.is) c.requires.stands

pub returns-in-Plays-clause-answers : goal.returns-in-Plays-clause-answers
returns-in-Plays-clause-answers g c =
    let now = c.args.self.now in
    let old =
    now_of now.core.history now.hearing now.seen (map (λ d. states_in (λ z. (goal.PointFilter-dyn g z).state z.1) d.chest) now.desks.items)
    now.viewer.seen in
    IfOk-weaker c.play.result _ _
    (λ text on.
    plays_on c.args.number c.args.line.now old (asks_is c.in_ok-session.field-0) c.hear.new.self c.in_ok-session.ensures
    c.requires.no_request c.in-Plays.session (line_of c.in-Plays.line) _ text.items (ap asks_is c.in-Plays.is) on
    c.play.ensures.goes_on.base_is c.play.ensures.hearing
    (viewed_still now.core c.play.new.self.core now.viewer.seen c.play.new.self.viewer.seen (ap (λ v. v.seen) c.play.ensures.viewer)
    c.play.ensures.goes_on))
    c.play.ensures.played

pub returns-in-Nothing-clause-answers : goal.returns-in-Nothing-clause-answers
returns-in-Nothing-clause-answers g c =
    let now = c.args.self.now in
    let old =
    now_of now.core.history now.hearing now.seen (map (λ d. states_in (λ z. (goal.PointFilter-dyn g z).state z.1) d.chest) now.desks.items)
    now.viewer.seen in
    nothing_on c.args.number c.args.line.now old (asks_is c.in_ok-session.field-0) c.hear.new.self c.in_ok-session.ensures
    c.requires.no_request c.new.result.items (ap asks_is c.in-Nothing.is)
    (is_nothing now.core.history c.args.number c.new.result.items c.new.ensures.items)

pub returns-in_ok-bad_line-in-Bad-clause-answers : goal.returns-in_ok-bad_line-in-Bad-clause-answers
returns-in_ok-bad_line-in-Bad-clause-answers g c =
    let now = c.args.self.now in
    let old =
    now_of now.core.history now.hearing now.seen (map (λ d. states_in (λ z. (goal.PointFilter-dyn g z).state z.1) d.chest) now.desks.items)
    now.viewer.seen in
    bad_on c.args.number c.args.line.now old (asks_is c.in_ok-session.field-0) c.hear.new.self c.in_ok-session.ensures
    c.requires.no_request c.into_bytes.result.items (ap asks_is c.in-Bad.is)
    (is_bad now.core.history c.args.number c.into_bytes.result.items
    (ap (λ v. v.items) c.into_bytes.ensures.value ∙ c.in_ok-bad_line-in-Bad.ensures))

pub returns-in-Plays-clause-made : goal.returns-in-Plays-clause-made
returns-in-Plays-clause-made g c =
    let now = c.args.self.now in
    let old =
    now_of now.core.history now.hearing now.seen (map (λ d. states_in (λ z. (goal.PointFilter-dyn g z).state z.1) d.chest) now.desks.items)
    now.viewer.seen in
    IfOk-weaker c.play.result _ _
    (λ text on.
    plays_made c.args.number c.args.line.now old (asks_is c.in_ok-session.field-0) c.hear.new.self c.in_ok-session.ensures
    c.requires.no_request c.in-Plays.session (line_of c.in-Plays.line) _ text.items (ap asks_is c.in-Plays.is) on)
    c.play.ensures.played

pub returns-in-Nothing-clause-made : goal.returns-in-Nothing-clause-made
returns-in-Nothing-clause-made g c = inl refl

pub returns-in_ok-bad_line-in-Bad-clause-made : goal.returns-in_ok-bad_line-in-Bad-clause-made
returns-in_ok-bad_line-in-Bad-clause-made g c = inl refl
