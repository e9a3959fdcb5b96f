-- The run of a script that is viewed, call by call.
use Rattle.std.specs.Prelude.{◌≡◌, ℕ, List, [], Option, Some, None, IfSome}
use Rattle.std.specs.List.{AllByRecursion}
use Rattle.spec_document.specs.declared.TileAt.{TileAt}
use Rattle.spec_document.specs.Document.{Document}
use Rattle.spec_history.specs.Machine.{Call, edit, undo, redo, tile, peek, top, Reply, tile_of}
use Rattle.spec_history.specs.History.{Entry, document_of}
use Rattle.spec_text.specs.Text.{digest_of}
use Rattle.spec_view.specs.Text.{IsViewed, of_tile, view_text}
use Rattle.spec_window.specs.Window.{window, window_refusal}
use Rattle.xl_history.specs.History.{History, version, document}
use Rattle.xl_play.specs.Playing.{ArePlayed, lines_in}

-- a tile of a stack
abbrev pub Place : Type 0
Place = ℕ × TileAt

-- the tile that a call asks for
abbrev pub asks_for : Call → Option Place
asks_for (edit guard edits) = None
asks_for (undo named) = None
asks_for redo = None
asks_for (tile stack at) = Some (stack, at)
asks_for (peek stack at) = None
asks_for top = None

-- the digest of the window from there, where the reply is a tile
abbrev pub window_digest : History → (cols rows : ℕ) → Option Place → Reply → List ℕ
window_digest h cols rows None reply = []
window_digest h cols rows (Some place) reply =
    of_tile (λ v. digest_of (window (document_of h.base h.entries v) place.0 place.1 cols rows)) reply

-- a tile that was asked for is that of the last version, which shows it
abbrev pub IsLastTile : History → Option Place → Reply → Type 0
IsLastTile h place reply =
    (v : ℕ) → reply ≡ tile_of v → IfSome place (λ p. (v ≡ version h) × (window_refusal (document h) p.0 p.1 ≡ None))

-- the entries are a legal history of calls of session 0 that may be viewed, and the text is their lines with these windows
pub record AreShown (base : Document) (es : List Entry) (cols rows : ℕ) (out : List ℕ) : Type 0 where
  pub played : ArePlayed base es (lines_in base es)
  pub viewed : AllByRecursion IsViewed es
  pub text : out ≡ view_text base es cols rows
