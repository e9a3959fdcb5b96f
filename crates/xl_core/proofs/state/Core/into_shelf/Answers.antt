-- The shelf that is in is right.
use Rattle.std.proofs.Common.{sym, ◌∙◌, ap, subst}
use Rattle.spec_saves.specs.Shelf.{ShelfIsRight}
use Rattle.xl_history.specs.Editing.{IsRight}
use Rattle.xl_history.specs.Holding.{all_seen, shelf_in, at_hand}
use Rattle.xl_core.proofs.state.Core.into_shelf.Goals as goal

pub returns-clause-shelf : goal.returns-clause-shelf
returns-clause-shelf g c = sym (ap (λ e. e.shelf) c.self.view_is) ∙ ap shelf_in c.shelf_of.ensures

pub returns-clause-right : goal.returns-clause-right
returns-clause-right g c =
    let see = g.D.Shelf.shelf_state in
    subst (λ e. IsRight see e c.shelf_of.result) c.self.view_is
    (subst (λ p. ShelfIsRight (see c.self.inside.opening.value) c.self.inside.base c.self.inside.entries.items
    (see (at_hand c.self.inside.opening.value (all_seen c.self.inside.handed.items) p))) c.shelf_of.ensures
    c.self.invariant.1.right)
