use Rattle.std.proofs.Common.{◌≡◌, length, subst}
use Rattle.std.specs.Prelude.{IsSome}
use Rattle.spec_saves.specs.Names.{saves_started}
use Rattle.xl_history.specs.Editing.{Editing}
use Rattle.xl_core.proofs.state.Core.know_opening.Goals as goal

pub returns-clause-selected : goal.returns-clause-selected
returns-clause-selected g c =
    subst (λ (e : Editing _). IsSome (g.D.Shelf.shelf_state e.opening).selected) c.self.view_is c.self.invariant.1.selected

pub returns-clause-each_start : goal.returns-clause-each_start
returns-clause-each_start g c =
    subst (λ (e : Editing _). length e.handed ≡ saves_started e.history.entries) c.self.view_is c.self.invariant.1.each_start
