-- The next entry of a session.
use Rattle.std.specs.Prelude.{ℕ, List, slice_index}
use Rattle.spec_history.specs.Machine.{Reply}
use Rattle.spec_history.specs.History.{Entry, Kind}

-- its index is how many calls the session has made
abbrev pub entry_of : (made : List ℕ) → (session : ℕ) → Kind → Reply → Entry
entry_of made session kind reply =
    record { session = session; index = slice_index made session; kind = kind; reply = reply }
