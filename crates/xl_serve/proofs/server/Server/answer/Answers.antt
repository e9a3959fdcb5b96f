use Rattle.std.proofs.Common.{map, ap, ◌∙◌, sym, Some}
use Rattle.std.specs.Prelude.{option_map}
use Rattle.std.proofs.lemmas.Result.{IfOk-weaker}
use Rattle.spec_serve.specs.Windows.{looks, waits}
use Rattle.xl_filters.specs.Chests.{states_in}
use Rattle.xl_told.specs.Requests.{request_is, window_is}
use Rattle.xl_serve.specs.Serving.{now_of}
use Rattle.xl_serve.proofs.Answering.{request_within, request_on}
use Rattle.xl_serve.proofs.Plain.{is_idle}
use Rattle.xl_serve.proofs.server.Server.answer.Goals as goal

pub show-requires-clause-some_cols : goal.show-requires-clause-some_cols
show-requires-clause-some_cols g c κs within =
    let at = c.in-Some-Look in
    let asked = sym c.request_of.ensures ∙ ap (option_map request_is) (at.is ∙ ap Some at.field-0-is) in
    (request_within c.args.line.now (looks at.session (window_is at.window)) asked).1.0

pub show-requires-clause-some_rows : goal.show-requires-clause-some_rows
show-requires-clause-some_rows g c κs within =
    let at = c.in-Some-Look in
    let asked = sym c.request_of.ensures ∙ ap (option_map request_is) (at.is ∙ ap Some at.field-0-is) in
    (request_within c.args.line.now (looks at.session (window_is at.window)) asked).1.1

pub show-requires-clause-few_cols : goal.show-requires-clause-few_cols
show-requires-clause-few_cols g c κs within =
    let at = c.in-Some-Look in
    let asked = sym c.request_of.ensures ∙ ap (option_map request_is) (at.is ∙ ap Some at.field-0-is) in
    (request_within c.args.line.now (looks at.session (window_is at.window)) asked).1.2

pub show-requires-clause-few_rows : goal.show-requires-clause-few_rows
show-requires-clause-few_rows g c κs within =
    let at = c.in-Some-Look in
    let asked = sym c.request_of.ensures ∙ ap (option_map request_is) (at.is ∙ ap Some at.field-0-is) in
    (request_within c.args.line.now (looks at.session (window_is at.window)) asked).1.3

pub returns-in-Some-Look-clause-answers : goal.returns-in-Some-Look-clause-answers
returns-in-Some-Look-clause-answers g c =
    let now = c.args.self.now in
    let old =
    now_of now.core.history now.hearing now.seen (map (λ d. states_in (λ z. (goal.PointFilter-dyn g z).state z.1) d.chest) now.desks.items)
    now.viewer.seen in
    let at = c.in-Some-Look in
    let asked = sym c.request_of.ensures ∙ ap (option_map request_is) (at.is ∙ ap Some at.field-0-is) in
    IfOk-weaker c.show.result _ _
    (λ text shown.
    request_on c.args.number c.args.line.now old (looks at.session (window_is at.window)) text.items c.show.new.viewer.seen asked
    (shown c.args.number) (λ before. c.show.ensures.history))
    c.show.ensures.shown

pub returns-in_ok-idle_line-in-Some-Wait-clause-answers : goal.returns-in_ok-idle_line-in-Some-Wait-clause-answers
returns-in_ok-idle_line-in-Some-Wait-clause-answers g c =
    let now = c.args.self.now in
    let old =
    now_of now.core.history now.hearing now.seen (map (λ d. states_in (λ z. (goal.PointFilter-dyn g z).state z.1) d.chest) now.desks.items)
    now.viewer.seen in
    let at = c.in-Some-Wait in
    let asked = sym c.request_of.ensures ∙ ap (option_map request_is) (at.is ∙ ap Some at.field-0-is) in
    request_on c.args.number c.args.line.now old (waits at.session) c.into_bytes.result.items now.viewer.seen asked
    (is_idle now.core.history at.session c.into_bytes.result.items c.requires.ready.ended
    (ap (λ v. v.items) c.into_bytes.ensures.value ∙ c.in_ok-idle_line-in-Some-Wait.ensures) c.args.number)
    (λ before. before)
