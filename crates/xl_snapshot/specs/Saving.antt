-- What becomes of a shelf when a document is saved on it.
use Rattle.std.specs.Prelude.{◌≡◌, List, ℕ, false, Option, IfSome}
use Rattle.spec_document.specs.Document.{Document}
use Rattle.spec_layout.specs.Layout.{Written, WrittenBy}
use Rattle.spec_world.specs.declared.SaveEnd.{SaveEnd}
use Rattle.spec_world.specs.declared.SaveEnd.TheVariants.{Done, Fault, Memory}
use Rattle.spec_saves.specs.Shelf.{file_name}
use Rattle.spec_saves.specs.Returns.{CountEnds}
use Rattle.xl_ports.specs.Disk.{Disk, Between}
use Rattle.xl_ports.specs.State.{ShelfState}
use Rattle.xl_save.specs.Save.{SavesOnly, HasSaved}

-- a file of the document was saved, or a fault stopped that; without memory for the file nothing was touched
abbrev pub Puts : SaveEnd → Document → (name : List ℕ) → (before after : Option Disk) → Type 0
Puts Done d name before after =
    (bytes : List ℕ) × Written bytes d × Between before after (λ b a. SavesOnly name bytes b a × HasSaved name bytes a)
Puts Fault d name before after = (bytes : List ℕ) × Written bytes d × Between before after (SavesOnly name bytes)
Puts Memory d name before after = after ≡ before

-- the shelf after a save that ended so; no draft is open where it is done
pub record IsSavedOn (old : ShelfState) (d : Document) (how : SaveEnd) (new : ShelfState) : Type 0 where
  pub selected : new.selected ≡ old.selected
  pub loads : new.loads ≡ old.loads
  pub reading : new.reading ≡ old.reading
  pub saving : CountEnds how old.saving new.saving
  pub untouched : how ≡ Memory → new ≡ old
  pub closed : how ≡ Done → new.is_open ≡ false
  pub contents : Puts how d (file_name old) old.disk new.disk

-- where a save is done, the shelf has a file of the document as this coder codes it, where it tells
abbrev pub IsCodedOn : (fits : List ℕ → List ℕ → Type 0) → (old : ShelfState) → Document → (how : SaveEnd) → (new : ShelfState) → Type 0
IsCodedOn fits old d how new = how ≡ Done
    → IfSome old.selected (λ name. IfSome new.disk (λ disk. (bytes : List ℕ) × WrittenBy fits bytes d × HasSaved name bytes disk))
