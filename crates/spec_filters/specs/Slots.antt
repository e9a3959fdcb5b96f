-- Filters in slots: the state of each, and None where a filter was forgotten.
use Rattle.std.specs.Prelude.{ℕ, Bool, List, Option, None, is_some, slice_index_or}
use Rattle.spec_filters.specs.declared.FilterState.{FilterState}

abbrev pub state_at : List (Option FilterState) → (slot : ℕ) → Option FilterState
state_at states slot = slice_index_or states slot None

abbrev pub has_slot : List (Option FilterState) → (slot : ℕ) → Bool
has_slot states slot = is_some (state_at states slot)
