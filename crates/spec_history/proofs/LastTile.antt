-- The last tile call of a tile: at which version it was.
use Rattle.std.proofs.Common.{◌≡◌, ℕ, ◌≤◌, Bool, true, false, cond, List, [], ◌∷◌, ◌++◌, refl, sym, ◌∙◌, ap, arith, eqb-true}
use Rattle.std.specs.Prelude.{not, ◌==◌, ◌&&◌, Option, Some, None}
use Rattle.spec_document.specs.declared.TileAt.{TileAt}
use Rattle.spec_document.specs.Grid.{is_on_grid, same_tile}
use Rattle.spec_document.specs.Document.{Document}
use Rattle.spec_history.specs.Machine.{tile, Reply, tile_of, no_stack, outside_tile, State, latest, document_at}
use Rattle.spec_history.specs.Machine.{initial, answer, has_stack}
use Rattle.spec_history.specs.History.{Kind, asked, Entry, after_entry, replay_from, replay, MayBe, IsStep, RunFrom}
use Rattle.spec_history.specs.History.{Run, is_changed}
use Rattle.spec_history.specs.Kept.{shown_version, or_earlier, last_tile}
use Rattle.spec_history.proofs.Versions.{IsSound, sound-initial, ends-run}
use Rattle.spec_history.proofs.Stacks.{sound-entry}

-- ---- what a tile call shows

pub record ShowsLatest (base : Document) (s : State) (stack v : ℕ) : Type 0 where
  pub version_is : v ≡ latest s
  pub there : has_stack (document_at base s (latest s)) stack ≡ true

named_tile : (named stack version v : ℕ) (same : Bool) → cond (named == stack && same) (Some version) None ≡ Some v
    → (named ≡ stack) × (version ≡ v)
named_tile named stack version v same e = step (named == stack) same refl e where
  step : (is also : Bool) → (named == stack) ≡ is → cond (is && also) (Some version) None ≡ Some v → (named ≡ stack) × (version ≡ v)
  step true true is some = (eqb-true named stack is, cc)
  step true false is some = cc
  step false also is some = cc

answered : (there on : Bool) (named version now : ℕ)
    → tile_of version ≡ cond (not there) (no_stack named) (cond (not on) outside_tile (tile_of now))
    → (there ≡ true) × (version ≡ now)
answered true true named version now e = (refl, cc)
answered true false named version now e = cc
answered false on named version now e = cc

shown_latest : (base : Document) (s : State) (named : ℕ) (place : TileAt) (tables : List (List ℕ)) (reply : Reply) (stack : ℕ)
    (at : TileAt) (v : ℕ)
    → shown_version (asked (tile named place) tables) reply stack at ≡ Some v
    → reply ≡ (answer base s (tile named place) tables).reply → ShowsLatest base s stack v
shown_latest base s named place tables (tile_of version) stack at v e is =
    let d = document_at base s (latest s) in
    let n = named_tile named stack version v (same_tile place at) e in
    let a = answered (has_stack d named) (is_on_grid d.width d.height place) named version (latest s) is in
    record { version_is = sym n.1 ∙ a.1; there = ap (has_stack d) (sym n.0) ∙ a.0 }
shown_latest base s named place tables reply stack at v e is = cc

shown_kind : (base : Document) (s : State) (earlier : List Entry) (e : Entry) (kind : Kind) (stack : ℕ) (at : TileAt) (v : ℕ)
    → MayBe base s earlier e kind → shown_version kind e.reply stack at ≡ Some v → ShowsLatest base s stack v
shown_kind base s earlier e (asked (tile named place) tables) stack at v may is =
    shown_latest base s named place tables e.reply stack at v is may.1
shown_kind base s earlier e kind stack at v may is = cc

-- a tile call shows the version that stands
pub shown-step : (base : Document) (s : State) (earlier : List Entry) (e : Entry) (stack : ℕ) (at : TileAt) (v : ℕ)
    → IsStep base s earlier e → shown_version e.kind e.reply stack at ≡ Some v → ShowsLatest base s stack v
shown-step base s earlier e stack at v step is = shown_kind base s earlier e e.kind stack at v step is

-- such an entry leaves the document
pub shown-unchanged : (kind : Kind) (reply : Reply) (stack : ℕ) (at : TileAt) (v : ℕ)
    → shown_version kind reply stack at ≡ Some v → is_changed reply ≡ false
shown-unchanged (asked (tile named place) tables) (tile_of version) stack at v is = refl
shown-unchanged kind reply stack at v is = cc

-- the last tile call of a run is at a version that is there
pub last-within : (base : Document) (s : State) (earlier es : List Entry) (stack : ℕ) (at : TileAt) (a : ℕ)
    → IsSound s → RunFrom base s earlier es → last_tile stack at es ≡ Some a → a ≤ latest (replay_from base s es)
last-within base s earlier [] stack at a sound run e = cc
last-within base s earlier (x ∷ es) stack at a sound run e =
    step (last_tile stack at es) (λ o. last-within base (after_entry base s x) (earlier
    ++ x ∷ []) es stack at a (sound-entry base s x sound) run.1 o) e where
      step : (o : Option ℕ) → (o ≡ Some a → a ≤ latest (replay_from base (after_entry base s x) es))
          → or_earlier o (shown_version x.kind x.reply stack at) ≡ Some a
          → a ≤ latest (replay_from base (after_entry base s x) es)
      step (Some v) rest is = rest is
      step None rest is =
          let shown = shown-step base s earlier x stack at a run.0 is in
          let version = shown.version_is in
          let more = (ends-run base s earlier (x ∷ es) sound run).more in
          omega (arith, version, more)

pub last-run : (base : Document) (es : List Entry) (stack : ℕ) (at : TileAt) (a : ℕ) → Run base es
    → last_tile stack at es ≡ Some a → a ≤ latest (replay base es)
last-run base es stack at a run e = last-within base (initial base) [] es stack at a (sound-initial base) run e
