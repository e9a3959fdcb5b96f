-- The two lines that a talk has beside those of a script: pixels of a window, and a wait for the save that is out.
use Rattle.std.specs.Prelude.{ℕ, ◌+◌, Bool, nat_le, if◌then◌else◌, List, [], ◌∷◌, Option, Some, None, option_map, codes}
use Rattle.std.specs.Option.{option_or}
use Rattle.spec_document.specs.declared.TileAt.{TileAt}
use Rattle.spec_script.specs.Words.{◌>>=◌, if_holds, number_below, number, none, three, five}
use Rattle.spec_script.specs.Commands.{is_word}
use Rattle.spec_window.specs.declared.TheConstants.{MAX_WINDOW}

-- the tiles from one on to its right and below, so many columns and rows, of the picture of a stack
pub record Window : Type 0 where
  pub stack : ℕ
  pub at : TileAt
  pub cols : ℕ
  pub rows : ℕ

-- a side of a window, in tiles
abbrev pub window_side : List ℕ → Option ℕ
window_side word = do
  n ← number_below (MAX_WINDOW + 1) word
  if_holds (nat_le 1 n) n

abbrev pub window_from : (stack col row : List ℕ) → (cols rows : ℕ) → Option Window
window_from stack col row cols rows = do
  id ← number stack
  c ← number col
  r ← number row
  Some (record { stack = id; at = record { col = c; row = r }; cols = cols; rows = rows })

abbrev pub one_tile : List (List ℕ) → Option Window
one_tile words = three words >>= λ t. window_from t.0 t.1 t.2 1 1

abbrev pub many_tiles : List (List ℕ) → Option Window
many_tiles words = five words >>= λ t. do
  cols ← window_side t.3
  rows ← window_side t.4
  window_from t.0 t.1 t.2 cols rows

-- three words, or five
abbrev pub window_of : List (List ℕ) → Option Window
window_of words = option_or (one_tile words) (many_tiles words)

-- a request of a session
pub data Request : Type 0 where
  looks : (session : ℕ) → Window → Request
  waits : (session : ℕ) → Request

abbrev pub request_by : (keyword : List ℕ) → (words : List (List ℕ)) → (session : ℕ) → Option Request
request_by keyword words session =
    let look = option_map (looks session) (window_of words) in
    let wait = if_holds (none words) (waits session) in
    if is_word keyword (codes "pixels") then look else
    if is_word keyword (codes "wait") then wait else None

-- what the words of a line ask for, where that is no line of a script
abbrev pub request_of : List (List ℕ) → Option Request
request_of [] = None
request_of (s ∷ []) = None
request_of (s ∷ keyword ∷ words) = number_below 8 s >>= request_by keyword words
