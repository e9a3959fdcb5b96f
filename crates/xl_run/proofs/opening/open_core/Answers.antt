use Rattle.std.proofs.Common.{ℕ, List, ap, subst, sym}
use Rattle.std.specs.Prelude.{Option, IsSome}
use Rattle.xl_run.proofs.Opened.{opened_keeps}
use Rattle.xl_run.proofs.opening.open_core.Goals as goal

pub returns-in-Ok-clause-selected : goal.returns-in-Ok-clause-selected
returns-in-Ok-clause-selected g c =
    subst (λ (o : Option (List ℕ)). IsSome o) (sym (ap (λ k. (g.D.Shelf.shelf_state k.opening).selected) c.in-Ok.ensures.ok)) c.requires.selected

pub returns-in-Ok-clause-kept : goal.returns-in-Ok-clause-kept
returns-in-Ok-clause-kept g c =
    opened_keeps c.in-Ok.core c.args.document c.args.shelf c.in-Ok.ensures.ok c.requires.limits c.in-Ok.ensures.right

pub returns-in-Err-clause-back : goal.returns-in-Err-clause-back
returns-in-Err-clause-back g c = ap (λ kept. kept.1) c.in-Err.ensures.back
