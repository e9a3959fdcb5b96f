-- Room for entries: how much can be done without memory.
use Rattle.std.specs.Prelude.{ℕ, ◌+◌, ◌-◌, min}
use Rattle.spec_history.specs.declared.TheConstants.{MAX_ENTRIES}
use Rattle.xl_history.specs.declared.saving.ShelfPlace.{ShelfPlace}
use Rattle.xl_history.specs.declared.saving.ShelfPlace.TheVariants.{In, Out}

-- the end that is owed where the shelf is out
abbrev pub owed_in : {K : Type 0} → ShelfPlace K → ℕ
owed_in (In k) = 0
owed_in (Out index version) = 1

-- room for so many entries beside the end that is owed; no more than a history may have
abbrev pub spare_of : {K : Type 0} → ShelfPlace K → (places len : ℕ) → ℕ
spare_of place places len = min MAX_ENTRIES (places - (len + owed_in place))
