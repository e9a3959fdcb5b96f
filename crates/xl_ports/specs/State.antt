-- What is known of a shelf.
use Rattle.std.specs.Prelude.{ℕ, List, Bool, Option}
use Rattle.xl_ports.specs.Disk.{Disk}

-- the one record of a shelf, which each of its calls changes
pub record ShelfState : Type 0 where
  -- the name that is selected, if any
  pub selected : Option (List ℕ)
  -- whether a draft is open
  pub is_open : Bool
  -- what a read gives, what a crash leaves, the draft, and the clock, where they are known
  pub disk : Option Disk
  -- how often `load` was called
  pub loads : ℕ
  -- how often `select` and `load` have failed
  pub reading : ℕ
  -- how often the other calls have failed
  pub saving : ℕ
