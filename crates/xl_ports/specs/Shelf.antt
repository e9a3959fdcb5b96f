-- What the names of a shelf stand for.
use Rattle.std.specs.Prelude.{◌≡◌, ℕ, ◌<◌, ◌≤◌, List, [], length, take, drop, Option, Some, None}

-- no file, or a file of these bytes
pub data Content : Type 0 where
  absent : Content
  file : List ℕ → Content

-- there is a file
abbrev pub IsFile : Content → Type 0
IsFile absent = ⊥
IsFile (file bytes) = Unit {0}

-- what the selected name stands for
abbrev pub selected_content : (selected : Option (List ℕ)) → (content : List ℕ → Option Content) → Option Content
selected_content None content = None
selected_content (Some name) content = content name

-- these bytes stand at an offset of the file; where room for more gave none of them, the offset is at or past its end
abbrev pub GivesPart : Content → (at room : ℕ) → (bytes : List ℕ) → Type 0
GivesPart absent at room bytes = ⊥
GivesPart (file all) at room bytes = (bytes ≡ take (length bytes) (drop at all)) × (bytes ≡ [] → 0 < room → length all ≤ at)

-- the first bytes of the file, up to a limit
abbrev pub GivesFront : Content → (limit : ℕ) → (bytes : List ℕ) → Type 0
GivesFront absent limit bytes = ⊥
GivesFront (file all) limit bytes = bytes ≡ take limit all
