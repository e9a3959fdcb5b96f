-- What filters were asked, told of a machine, and of a call, that are the same.
use Rattle.std.proofs.Common.{◌≡◌, List, subst}
use Rattle.std.specs.Prelude.{Option, Result, OnErr}
use Rattle.spec_filters.specs.declared.FilterState.{FilterState}
use Rattle.spec_history.specs.Machine.{Call}
use Rattle.spec_tables.specs.Agrees.{IsPartAfter}
use Rattle.spec_standing.specs.Now.{Now, accepts}

-- of the call that was asked
pub part_asked : {A E : Type 0} (r : Result A E) (now : Now) (one other : Call) (before after : List (Option FilterState))
    → one ≡ other → OnErr r (IsPartAfter (accepts now one) before after one)
    → OnErr r (IsPartAfter (accepts now other) before after other)
part_asked r now one other before after same part =
    subst (λ c. OnErr r (IsPartAfter (accepts now c) before after c)) same part
