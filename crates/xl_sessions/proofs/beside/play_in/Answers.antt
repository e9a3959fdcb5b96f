use Rattle.std.proofs.Common.{List, ap, sym, ◌∙◌, subst, string_bytes}
use Rattle.std.specs.Prelude.{IfOk}
use Rattle.spec_document.specs.Document.{Document}
use Rattle.spec_history.specs.History.{latest_of}
use Rattle.spec_run.specs.Fronts.{IsFrontOf}
use Rattle.spec_run.proofs.Fronts.{front_none}
use Rattle.spec_text.specs.Text.{IsTextOf}
use Rattle.xl_studio.specs.declared.moment.Moment.{Moment}
use Rattle.xl_studio.specs.Moments.{entries_in}
use Rattle.xl_studio.proofs.Seated.{back}
use Rattle.xl_sessions.proofs.beside.play_in.Goals as goal

pub play_opened-requires-clause-unchanged : goal.play_opened-requires-clause-unchanged
play_opened-requires-clause-unchanged g c = λ κs within.
    ap (λ (ms : List (Moment g.row.D.Denot)). latest_of (entries_in ms)) c.in-Ok.ensures.front
    ∙ ap latest_of (back c.args.core ∙ c.requires.fresh)

pub returns-in-Ok-clause-text : goal.returns-in-Ok-clause-text
returns-in-Ok-clause-text g c = λ chests lists brought.
    let played = c.play_opened.result in
    let es = played.core.history.entries in
    subst (λ (base : Document). IfOk played.text (λ text. IsTextOf (string_bytes text) base lists chests es))
    c.in-Ok.ensures.base (c.play_opened.ensures.text chests lists brought)

pub returns-in-Err-clause-front : goal.returns-in-Err-clause-front
returns-in-Err-clause-front g c = λ chests lists brought.
    subst (IsFrontOf lists chests) (sym (ap (λ k. k.history.entries) c.in-Err.ensures.back ∙ c.requires.fresh)) (front_none lists chests)
