-- What the seat knows of a save, and of one that did not begin.
use Rattle.std.proofs.Common.{ap, subst, sym, ◌∙◌}
use Rattle.std.specs.Arc.{arc_value}
use Rattle.xcf_sessions.specs.Replies.{reply_saved}
use Rattle.xcf_sessions.specs.Saved.{IsSaveTold}
use Rattle.xcf_sessions.proofs.Following.{seen_by}
use Rattle.xcf_sessions.proofs.Written.{save_told, save_failed}
use Rattle.xcf_sessions.proofs.session.Session.save.Goals as goal
use Rattle.xcf_sessions.proofs.session.Session.save.Goals.{in-Ok, in-Err}

pub returns : goal.returns
returns g c =
    let see = g.D.Shelf.shelf_state in
    let number = c.self.inside.number in
    let kept = arc_value c.self.inside.studio in
    let old = c.self.inside.seat in
    let new = c.save.new.seat in
    elim c.match-save.branch [
      | in-Ok w ↦ save_told see number c.deref.result.now kept _ (reply_saved c.match-save.result) old new c.args.self.now
          c.deref.ensures c.self.view_is (ap reply_saved w.result-is ∙ w.outcome_of_save.ensures) w.in-Ok.ensures.goes_on
          w.in-Ok.ensures.saved
      | in-Err w ↦ subst (λ r. IsSaveTold see (reply_saved r) c.args.self.now (seen_by number kept new)) (sym w.result-is)
          (save_failed see number c.deref.result.now kept old new c.args.self.now c.deref.ensures c.self.view_is
          w.in-Err.ensures.goes_on w.in-Err.ensures.failed)
    ]
