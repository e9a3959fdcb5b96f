-- The filters after entries of their session, one behind another.
use Rattle.std.proofs.Common.{◌≡◌, List, [], ◌∷◌, ◌++◌, refl}
use Rattle.spec_filters.specs.declared.FilterState.{FilterState}
use Rattle.spec_history.specs.History.{Entry}
use Rattle.spec_tables.specs.Tables.{filters_after, filters_along}

pub filters_append : (filters : List FilterState) (es more : List Entry)
    → filters_along filters (es ++ more) ≡ filters_along (filters_along filters es) more
filters_append filters [] more = refl
filters_append filters (e ∷ es) more = filters_append (filters_after filters e.kind e.reply) es more
