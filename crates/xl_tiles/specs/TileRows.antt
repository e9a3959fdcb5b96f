-- A table of tiles as its rows.
use Rattle.std.specs.Prelude.{◌≡◌, ℕ, ◌≤◌, List, length}
use Rattle.std.specs.List.{AllByRecursion}

-- each row has so many tiles
pub record AreRows (columns : ℕ) (rows : List (List (List ℕ))) : Type 0 where
  pub some : 1 ≤ columns
  pub full : AllByRecursion (λ row. length row ≡ columns) rows
