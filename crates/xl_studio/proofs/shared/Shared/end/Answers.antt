use Rattle.std.proofs.Common.{◌+◌, length, sym, ap, subst}
use Rattle.std.specs.Prelude.{IsSome}
use Rattle.xl_history.specs.Editing.{Editing}
use Rattle.xl_calls.specs.Replies.{reply_of}
use Rattle.xl_studio.specs.State.{State}
use Rattle.xl_studio.proofs.Started.{ended_after, kept_after_end}
use Rattle.xl_studio.proofs.shared.Shared.end.Goals as goal

pub invariant_of-self : goal.invariant_of-self
invariant_of-self g c =
    let e = c.end_save-reply.ensures in (
      kept_after_end c.self.inside.core c.end_save-reply.new.self c.args.session c.args.how c.args.shelf
          (reply_of c.end_save-reply.result) c.self.invariant.0 e.pictures e.few e.ended,
      ap (λ es. length es + 1) c.entries.ensures,
      subst (λ (k : _). IsSome (g.D.Shelf.shelf_state k).selected) (sym (ap (λ (core : Editing _). core.opening) e.ended.1)) c.self.invariant.2,
    )

pub returns-clause-kept : goal.returns-clause-kept
returns-clause-kept g c =
    let e = c.end_save-reply.ensures in
    kept_after_end c.self.inside.core c.end_save-reply.new.self c.args.session c.args.how c.args.shelf
    (reply_of c.end_save-reply.result) c.self.invariant.0 e.pictures e.few e.ended

pub returns-clause-ended : goal.returns-clause-ended
returns-clause-ended g c =
    ended_after c.self.inside.core c.args.self.now.core c.end_save-reply.new.self c.args.session c.args.how c.args.shelf
    (reply_of c.end_save-reply.result) (ap (λ (s : State _). s.core) c.self.view_is) c.end_save-reply.ensures.ended
