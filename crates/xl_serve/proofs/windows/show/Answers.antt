use Rattle.std.proofs.Common.{List, ℕ, ◌++◌, ap, ◌∙◌}
use Rattle.spec_serve.specs.Said.{frame}
use Rattle.xl_told.specs.Requests.{window_is}
use Rattle.xl_serve.proofs.Shown.{window_shown, window_refused}
use Rattle.xl_serve.proofs.windows.show.Goals as goal

pub returns-in-Ok-clause-shown : goal.returns-in-Ok-clause-shown
returns-in-Ok-clause-shown g c =
    let is = c.in-Ok.ensures.answered in
    let v = c.in-Ok.version in
    let text = c.in_ok-append_frame-in-Ok.ensures.ok
    ∙ ap (λ (l : List ℕ). l ++ frame c.args.session v c.deref.result.now) c.new-text.ensures.items
    ∙ ap (frame c.args.session v) c.deref.ensures.value in
    window_shown c.args.core.now.history c.args.session v (window_is c.args.window) c.window.new.out.items
    c.append_frame.new.out.items is.0 is.1 is.2 text

pub returns-in-Err-Refused-clause-shown : goal.returns-in-Err-Refused-clause-shown
returns-in-Err-Refused-clause-shown g c =
    let is = rw c.in-Err-Refused.field-0-is at c.in-Err-Refused.ensures.answered in
    window_refused c.args.core.now.history c.args.session (window_is c.args.window) c.in-Err-Refused.why c.into_bytes.result.items is.0
    (ap (λ v. v.items) c.into_bytes.ensures.value ∙ c.in_ok-refusal_line-in-Err-Refused.ensures)
