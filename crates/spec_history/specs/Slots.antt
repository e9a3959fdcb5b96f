-- What a cache keeps of a tile.
use Rattle.std.specs.Prelude.{◌≡◌, ℕ, ◌<◌, ◌≤◌, Bool, true, false, ◌==◌, if◌then◌else◌, nat_lt, List, Option, Some}
use Rattle.std.specs.Prelude.{None, is_some, IfSome}
use Rattle.spec_document.specs.declared.TileAt.{TileAt}
use Rattle.spec_document.specs.Document.{Document}
use Rattle.spec_damage.specs.Picture.{project}
use Rattle.spec_history.specs.Machine.{Reply, tile_of, stale, State, latest, document_at, has_stack}
use Rattle.spec_history.specs.History.{Entry, replay}
use Rattle.spec_history.specs.Kept.{kept}
use Rattle.spec_history.specs.Marks.{marked_at}

-- ---- what a cache keeps of a tile

-- the version whose picture a slot keeps: the latest where it is clean, and else the one up to which it was good
abbrev pub version_kept : (latest good_to : ℕ) → (marked : Bool) → ℕ
version_kept latest good_to marked = if marked then good_to else latest

-- the picture is that of the version, which is no older than what has to be kept
pub record IsShown (base : Document) (s : State) (keeps : Option ℕ) (stack : ℕ) (at : TileAt) (picture : List ℕ) (version : ℕ)
    : Type 0 where
  pub within : version ≤ latest s
  pub there : has_stack (document_at base s version) stack ≡ true
  pub picture_is : picture ≡ project (document_at base s version) stack at
  pub enough : IfSome keeps (λ k. k ≤ version)

-- where there is no picture, none has to be kept
abbrev pub IsPictured : Document → State → (keeps : Option ℕ) → (stack : ℕ) → TileAt → (picture : Option (List ℕ)) → (version : ℕ)
    → Type 0
IsPictured base s keeps stack at None version = keeps ≡ None
IsPictured base s keeps stack at (Some picture) version = IsShown base s keeps stack at picture version

-- What may be kept of a tile: a picture or none, the version up to which it was good where it is marked, whether it is marked, and
-- the last version that marked it. The stack is there, and keeps is the version whose picture has to be kept at least, if any.
pub record IsSlotOf (base : Document) (s : State) (keeps : Option ℕ) (stack : ℕ) (at : TileAt) (picture : Option (List ℕ))
    (good_to : ℕ) (marked : Bool) (mark : ℕ) : Type 0 where
  pub there : has_stack (document_at base s (latest s)) stack ≡ true
  pub mark_is : mark ≡ marked_at base s stack at
  pub pictured : IsPictured base s keeps stack at picture (version_kept (latest s) good_to marked)
  pub clean : marked ≡ false → is_some picture ≡ true
  pub older : marked ≡ true → is_some picture ≡ true → good_to < mark

-- the same after a history
abbrev pub IsSlot : Document → List Entry → (stack : ℕ) → TileAt → (picture : Option (List ℕ)) → (good_to : ℕ) → (marked : Bool)
    → (mark : ℕ) → Type 0
IsSlot base es stack at picture good_to marked mark =
    IsSlotOf base (replay base es) (kept base es stack at) stack at picture good_to marked mark

-- what a slot answers to a peek of a session that has seen a version
abbrev pub slot_peek : (picture : Option (List ℕ)) → (version seen : ℕ) → Reply
slot_peek None version seen = stale None seen
slot_peek (Some picture) version seen = if nat_lt version seen then stale (Some version) seen else tile_of version

-- ---- a cache that is never refreshed

-- the picture is just that of the version that has to be kept, if any
abbrev pub IsExact : (keeps : Option ℕ) → (picture : Option (List ℕ)) → (version : ℕ) → Type 0
IsExact keeps None version = keeps ≡ None
IsExact keeps (Some picture) version = keeps ≡ Some version

-- What a slot keeps after a history where only tile calls gave it pictures.
pub record IsExactSlot (base : Document) (es : List Entry) (stack : ℕ) (at : TileAt) (picture : Option (List ℕ)) (good_to : ℕ)
    (marked : Bool) (mark : ℕ) : Type 0 where
  pub slot : IsSlot base es stack at picture good_to marked mark
  pub exact : IsExact (kept base es stack at) picture (version_kept (latest (replay base es)) good_to marked)

-- the answer to a peek that what is kept gives, to a session that has seen the latest version
abbrev pub kept_peek : Option ℕ → (now : ℕ) → Reply
kept_peek None now = stale None now
kept_peek (Some k) now = if k == now then tile_of now else stale (Some k) now
