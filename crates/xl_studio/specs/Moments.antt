-- What a studio's lock keeps a list of: the opening, and then the entries of the history.
use Rattle.std.specs.Prelude.{ℕ, ◌+◌, List, [], ◌∷◌, ◌++◌, slice_get, option_to_list, Option, Some, None}
use Rattle.std.specs.List.{AllByRecursion}
use Rattle.spec_document.specs.Document.{Document}
use Rattle.spec_history.specs.History.{Kind, asked, starts, ends, Entry}
use Rattle.xl_studio.specs.declared.moment.Moment.{Moment}
use Rattle.xl_studio.specs.declared.moment.Moment.TheVariants.{Opened, Made}

abbrev pub starts_with : (earlier : ℕ) → Kind → ℕ
starts_with earlier (asked call tables) = earlier
starts_with earlier starts = earlier + 1
starts_with earlier ends = earlier

-- the place of the start of the save that is out after an entry of this place
abbrev pub out_with : (place : ℕ) → Option ℕ → Kind → Option ℕ
out_with place out (asked call tables) = out
out_with place out starts = Some place
out_with place out ends = None

-- an end closes the start of the save that is out
abbrev pub closed_with : Option ℕ → Kind → Option ℕ
closed_with out (asked call tables) = None
closed_with out starts = None
closed_with out ends = out

-- the entry is a call's
abbrev pub IsAsked : Kind → Type 0
IsAsked (asked call tables) = Unit {0}
IsAsked starts = ⊥
IsAsked ends = ⊥

-- the entries are calls'
abbrev pub AreAsked : List Entry → Type 0
AreAsked es = AllByRecursion (λ e. IsAsked e.kind) es

module _ {K : Type 0} where
  -- ---- from a history to moments

  -- the shelf that a start hands out, by how many starts came before it
  abbrev pub handed_at : List K → (earlier : ℕ) → Kind → Option K
  handed_at handed earlier (asked call tables) = None
  handed_at handed earlier starts = slice_get handed earlier
  handed_at handed earlier ends = None

  abbrev pub made_from : List K → (earlier : ℕ) → List Entry → List (Moment K)
  made_from handed earlier [] = []
  made_from handed earlier (e ∷ es) = Made e (handed_at handed earlier e.kind) ∷ made_from handed (starts_with earlier e.kind) es

  -- the opening, and each entry; a start has the shelf that it handed out
  abbrev pub moments : (base : Document) → (opening : K) → (handed : List K) → List Entry → List (Moment K)
  moments base opening handed es = Opened base opening ∷ made_from handed 0 es

  -- ---- and back

  abbrev pub entry_in : Moment K → List Entry
  entry_in (Opened base shelf) = []
  entry_in (Made entry handed) = entry ∷ []

  abbrev pub entries_in : List (Moment K) → List Entry
  entries_in [] = []
  entries_in (m ∷ ms) = entry_in m ++ entries_in ms

  abbrev pub shelf_of : Moment K → List K
  shelf_of (Opened base shelf) = []
  shelf_of (Made entry handed) = option_to_list handed

  -- the shelves that were handed out
  abbrev pub handed_in : List (Moment K) → List K
  handed_in [] = []
  handed_in (m ∷ ms) = shelf_of m ++ handed_in ms

  -- ---- which entry closes which

  abbrev pub out_next : (place : ℕ) → Option ℕ → Moment K → Option ℕ
  out_next place out (Opened base shelf) = out
  out_next place out (Made entry handed) = out_with place out entry.kind

  -- the place of the start of the save that is out after these moments, the first of which has this place
  abbrev pub out_from : (place : ℕ) → Option ℕ → List (Moment K) → Option ℕ
  out_from place out [] = out
  out_from place out (m ∷ ms) = out_from (place + 1) (out_next place out m) ms

  abbrev pub place_out : List (Moment K) → Option ℕ
  place_out ms = out_from 0 None ms

  abbrev pub closed_next : Option ℕ → Moment K → Option ℕ
  closed_next out (Opened base shelf) = None
  closed_next out (Made entry handed) = closed_with out entry.kind

  abbrev pub closed_from : (place : ℕ) → Option ℕ → List (Moment K) → Option ℕ
  closed_from place out [] = None
  closed_from place out (m ∷ []) = closed_next out m
  closed_from place out (m ∷ n ∷ ms) = closed_from (place + 1) (out_next place out m) (n ∷ ms)

  -- The end of a save closes the place of the last start before it; no other entry closes a place.
  abbrev pub closed_by : List (Moment K) → Option ℕ
  closed_by ms = closed_from 0 None ms
