-- What holds of a shelf on which a document is saved, after a history, as long as no save is out.
use Rattle.std.specs.Prelude.{◌≡◌, ◌⊎◌, ℕ, ◌+◌, ◌≤◌, List, [], ◌∷◌, unwrap_or}
use Rattle.spec_document.specs.Document.{Document}
use Rattle.spec_history.specs.History.{Entry}
use Rattle.xl_ports.specs.Shelf.{Content}
use Rattle.xl_ports.specs.Faults.{last_count}
use Rattle.xl_ports.specs.Disk.{Disk, MayLeave, MightHaveLeft, LeavesJust, Between, OthersStay}
use Rattle.xl_ports.specs.State.{ShelfState}
use Rattle.spec_saves.specs.Names.{Named, the_old, version, names, save_faults}
use Rattle.spec_saves.specs.Contents.{IsIn, IsSaved}

-- the name of the file
abbrev pub file_name : ShelfState → List ℕ
file_name s = unwrap_or s.selected []

-- where a version is the file's one name, a crash leaves one content; where the old file is, a read gives what it gave
abbrev pub IsSettled : List Named → (name : List ℕ) → (opened now : Disk) → Type 0
IsSettled [] name opened now = Unit {0}
IsSettled (the_old ∷ []) name opened now = now.read name ≡ opened.read name
IsSettled (version v ∷ []) name opened now = LeavesJust now name (now.read name)
IsSettled (one ∷ two ∷ more) name opened now = Unit {0}

-- what the file may hold under this name, now and at each moment; other names stay
pub record DiskIsRight (name : List ℕ) (base : Document) (es : List Entry) (opened now : Disk) : Type 0 where
  pub later : opened.moment ≤ now.moment
  -- a crash now
  pub leaves : (c : Content) → MayLeave now name c → IsIn base es opened name c (names es)
  -- a crash since the opening, or since a moment before it
  pub left : (since : ℕ) (c : Content) → since ≤ opened.moment → MightHaveLeft now name since c
      → MightHaveLeft opened name since c ⊎ IsSaved base es c
  pub settled : IsSettled (names es) name opened now
  pub elsewhere : OthersStay name opened now

-- a count rose at least so often, or stands at its end
abbrev pub RoseOften : (times : ℕ) → (old new : ℕ) → Type 0
RoseOften times old new = (old + times ≤ new) ⊎ (last_count ≤ new)

-- The shelf is that of the opening, after these saves, and nothing was read of it. What the files hold is said where it is known.
pub record ShelfIsRight (opening : ShelfState) (base : Document) (es : List Entry) (now : ShelfState) : Type 0 where
  pub selected : now.selected ≡ opening.selected
  pub loads : now.loads ≡ opening.loads
  pub reading : now.reading ≡ opening.reading
  pub saving_rose : RoseOften (save_faults es) opening.saving now.saving
  pub saving_stays : save_faults es ≡ 0 → now.saving ≡ opening.saving
  pub contents : Between opening.disk now.disk (DiskIsRight (file_name opening) base es)
