-- What holds of one slot, beside the document that its stack belongs to. From this the facts of a world follow slot by slot.
use Rattle.std.specs.Prelude.{◌≡◌, ℕ, ◌+◌, ◌<◌, ◌≤◌, true, false, List, IfSome, IsSome, Option, Some}
use Rattle.spec_document.specs.declared.TileAt.{TileAt}
use Rattle.spec_document.specs.Document.{Document}
use Rattle.spec_document.specs.Picture.{project}
use Rattle.spec_cache.specs.Slots.{Slot}
use Rattle.spec_history.specs.Machine.{State, latest, document_at}
use Rattle.spec_history.specs.History.{Entry, replay}
use Rattle.spec_history.specs.Kept.{damaged_at}
use Rattle.spec_history.specs.TilesStay.{StackStays, VersionKeepsTiles}
use Rattle.spec_history.specs.Marks.{marked_at}
use Rattle.spec_world.specs.Right.{IsPictureAt}

-- each version shows a tile that it does not damage as the version before does
abbrev pub DamageIsSound : Document → State → Type 0
DamageIsSound base s = (version : ℕ) → 1 ≤ version → version ≤ latest s → VersionKeepsTiles base s version

-- so it is after every list of entries
abbrev pub DamageIsAlwaysSound : Document → Type 0
DamageIsAlwaysSound base = (es : List Entry) → DamageIsSound base (replay base es)

-- a version after a damaged the tile, and the slot is good up to the one before it at least
pub record WasGoodEnough (base : Document) (s : State) (stack : ℕ) (at : TileAt) (a good_to : ℕ) : Type 0 where
  pub version : ℕ
  pub later : a < version
  pub there : version ≤ latest s
  pub damaged : damaged_at base s stack at version ≡ true
  pub good : version ≤ good_to + 1

-- What holds of the slot of a tile, where `last` is the version of the last tile call there.
pub record IsRightSlot (base : Document) (s : State) (stack : ℕ) (at : TileAt) (last : Option ℕ) (slot : Slot) : Type 0 where
  pub mark : slot.marked_at ≡ marked_at base s stack at
  pub clean : slot.marked ≡ false → slot.picture ≡ Some (project (document_at base s (latest s)) stack at)
  pub marked : slot.marked ≡ true → IfSome slot.picture (IsPictureAt base s stack at slot.good_to)
  pub enough : (a : ℕ) → last ≡ Some a → StackStays base s stack a (latest s) → slot.marked ≡ true
      → IsSome slot.picture × WasGoodEnough base s stack at a slot.good_to
