use Rattle.std.proofs.Common.{◌≡◌, None, refl, subst}
use Rattle.std.specs.Prelude.{Option, Some, IsSome}
use Rattle.spec_history.specs.Machine.{Saving}
use Rattle.spec_history.specs.History.{replay}
use Rattle.xl_history.specs.Editing.{Editing, out_of}
use Rattle.xl_history.specs.Holding.{shelf_in, IsPlace}
use Rattle.xl_history.specs.declared.saving.ShelfPlace.{ShelfPlace}
use Rattle.xl_history.specs.declared.saving.ShelfPlace.TheVariants.{In, Out}
use Rattle.xl_core.proofs.state.Core.know_shelf.Goals as goal

is_in : (K : Type 0) (place : ShelfPlace K) (out : Option Saving) → IsPlace place out → out ≡ None → IsSome (shelf_in place)
is_in K (In k) out there none = refl
is_in K (Out index version) None there none = absurd there
is_in K (Out index version) (Some out) there none = cc

pub returns : goal.returns
returns g c =
    subst (λ (e : Editing _). out_of e.history ≡ None → IsSome e.shelf) c.self.view_is
    (is_in g.row.D.Denot c.self.inside.place
    (replay c.self.inside.base c.self.inside.entries.items).out c.self.invariant.1.place_is)
