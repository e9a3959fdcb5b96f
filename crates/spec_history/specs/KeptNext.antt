-- What the version that is kept of a tile promises, and what is kept after one entry more.
use Rattle.std.specs.Prelude.{◌≡◌, ℕ, ◌+◌, ◌≤◌, Bool, not, ◌&&◌, ◌==◌, if◌then◌else◌, List, Option, Some, None}
use Rattle.spec_document.specs.declared.TileAt.{TileAt}
use Rattle.spec_document.specs.Document.{Document}
use Rattle.spec_damage.specs.Picture.{project}
use Rattle.spec_history.specs.Machine.{Reply, State, latest, document_at, has_stack}
use Rattle.spec_history.specs.History.{Entry, is_changed, replay, document_of}
use Rattle.spec_history.specs.Kept.{last_tile, damaged_at}
use Rattle.spec_history.specs.TilesStay.{StackStays}

-- The version k is that of the last tile call, or a later one that still shows the same.
pub record IsKept (base : Document) (es : List Entry) (stack : ℕ) (at : TileAt) (k : ℕ) : Type 0 where
  pub shown : ℕ
  pub last : last_tile stack at es ≡ Some shown
  pub from : shown ≤ k
  pub within : k ≤ latest (replay base es)
  pub there : StackStays base (replay base es) stack shown (latest (replay base es))
  pub same : (v : ℕ) → shown ≤ v → v ≤ k → project (document_of base es v) stack at ≡ project (document_of base es k) stack at

-- what is kept when one more version has come, which may be without the stack or damage the tile
abbrev pub kept_next : (version : ℕ) → (there damaged : Bool) → Option ℕ → Option ℕ
kept_next version there damaged None = None
kept_next version there damaged (Some k) =
    if not there then None else
    if k + 1 == version && not damaged then Some version else Some k

-- what is kept after an entry that is no tile call of this stack and tile; the state is the one after it
abbrev pub kept_after : Document → State → (stack : ℕ) → TileAt → Reply → Option ℕ → Option ℕ
kept_after base s stack at reply k =
    let there = has_stack (document_at base s (latest s)) stack in
    let damaged = damaged_at base s stack at (latest s) in
    let next = kept_next (latest s) there damaged k in
    if is_changed reply then next else k
