-- The edits that a call makes are those whose filters are asked.
use Rattle.std.proofs.Common.{◌≡◌, ℕ, List, refl}
use Rattle.spec_history.specs.Machine.{Call, Reply}
use Rattle.spec_history.specs.History.{asked}
use Rattle.spec_filters.specs.declared.FilterState.{FilterState}
use Rattle.spec_tables.specs.Tables.{edits_made, tables_for, used_by, expected_tables, filters_after}

pub tables_made : (filters : List FilterState) (call : Call) (tables : List (List ℕ)) (reply : Reply)
    → expected_tables filters (asked call tables) reply ≡ tables_for filters (edits_made call reply)
tables_made filters call tables reply = refl

pub filters_made : (filters : List FilterState) (call : Call) (tables : List (List ℕ)) (reply : Reply)
    → filters_after filters (asked call tables) reply ≡ used_by filters (edits_made call reply)
filters_made filters call tables reply = refl
