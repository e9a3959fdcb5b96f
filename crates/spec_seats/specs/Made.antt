-- What a session has made of a history, by the places of its entries.
use Rattle.std.specs.Prelude.{◌≡◌, ℕ, ◌<◌, List, [], ◌∷◌, length, filter_map}
use Rattle.std.specs.List.{AllByRecursion}
use Rattle.spec_history.specs.History.{Entry}
use Rattle.spec_filters.specs.declared.FilterState.{FilterState}
use Rattle.spec_script.specs.Script.{Line}
use Rattle.spec_tables.specs.Tables.{HaveTables}
use Rattle.spec_text.specs.Text.{calls_along, calls_of, IsPrintable}
use Rattle.spec_seats.specs.Picked.{picked, Rise, IsFreshAt}
use Rattle.spec_seats.specs.Ended.{AreEnded}

-- The entries at these places are a session's, and each save of it has ended.
pub record IsOf (session : ℕ) (places : List ℕ) (es : List Entry) : Type 0 where
  pub own : AllByRecursion (λ e. e.session ≡ session) (picked places es)
  pub ended : AreEnded (picked places es)
  pub within : AllByRecursion (λ place. place < length es) places
  pub rise : Rise places

-- They are the calls of its lines, once each and in order, with the tables of its filters; what each was shown is no
-- older than what the session had seen.
pub record HasMade (session : ℕ) (filters : List FilterState) (lines : List Line) (places : List ℕ) (es : List Entry) : Type 0 where
  pub of : IsOf session places es
  pub printable : AllByRecursion IsPrintable (picked places es)
  pub calls : calls_along (picked places es) ≡ calls_of lines
  pub tables : HaveTables filters (picked places es)
  pub fresh : IsFreshAt places es
