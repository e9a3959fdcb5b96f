-- Entries along which each save that starts ends at once.
use Rattle.std.specs.Prelude.{◌≡◌, List, [], ◌∷◌, Option, Some, None}
use Rattle.spec_history.specs.History.{Entry, Kind, asked, starts, ends}

-- what may come where a start is open, or none is: its end, or anything but an end
abbrev pub MayFollow : (start : Option Entry) → Entry → Kind → Type 0
MayFollow None e (asked call tables) = Unit {0}
MayFollow None e starts = Unit {0}
MayFollow None e ends = ⊥
MayFollow (Some start) e (asked call tables) = ⊥
MayFollow (Some start) e starts = ⊥
MayFollow (Some start) e ends = (e.session ≡ start.session) × (e.index ≡ start.index)

-- the start that is open after an entry
abbrev pub opened_by : Entry → Kind → Option Entry
opened_by e (asked call tables) = None
opened_by e starts = Some e
opened_by e ends = None

abbrev pub IsClosed : (start : Option Entry) → Type 0
IsClosed None = Unit {0}
IsClosed (Some start) = ⊥

abbrev pub AreEndedFrom : (start : Option Entry) → List Entry → Type 0
AreEndedFrom start [] = IsClosed start
AreEndedFrom start (e ∷ es) = MayFollow start e e.kind × AreEndedFrom (opened_by e e.kind) es

-- each start is followed at once by an end of the same session and index, and there are no other ends
abbrev pub AreEnded : List Entry → Type 0
AreEnded es = AreEndedFrom None es
