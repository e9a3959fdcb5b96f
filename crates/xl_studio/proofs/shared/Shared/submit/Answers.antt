-- What the core made of the call is said of what lies under the lock.
use Rattle.std.proofs.Common.{◌≤◌, ◌+◌, ap, sym, subst, length}
use Rattle.std.specs.Prelude.{IsSome}
use Rattle.xl_history.specs.History.{version}
use Rattle.xl_studio.specs.State.{State, IsKept}
use Rattle.xl_studio.proofs.Called.{told_same, fresh_after, kept_after}
use Rattle.xl_studio.proofs.shared.Shared.submit.Given as given
use Rattle.xl_studio.proofs.shared.Shared.submit.Goals as goal

kept : (g : given.Over) (c : goal.After-self-1 g) → IsKept c.submit-reply.new.self
kept g c = kept_after c.submit-reply.ensures c.self.invariant.0 c.know_right.ensures

pub invariant_of-self : goal.invariant_of-self
invariant_of-self g c = (
  kept g c,
  ap (λ es. length es + 1) c.entries.ensures,
  subst (λ (k : _). IsSome (g.D.Shelf.shelf_state k).selected) (sym c.submit-reply.ensures.shelf.opening) c.self.invariant.2,
)

pub returns : goal.returns
returns g c = record {
  core = told_same c.submit-reply.ensures _ (ap (λ (s : State _). s.core) c.self.view_is);
  fresh = fresh_after c.submit-reply.ensures c.self.invariant.0.right.legal
      (subst (λ (s : State _). c.args.seen ≤ version s.core.history) (sym c.self.view_is) c.requires.seen);
  kept = kept g c;
  closing = ap (λ (s : State _). s.closing) c.self.view_is;
}
