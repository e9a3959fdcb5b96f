-- What comes of the bytes of a file that sessions are to share, and of the shelf on which they are to save.
use Rattle.std.specs.Prelude.{◌≡◌, ℕ, List, false, Some, Result, Ok, Err}
use Rattle.spec_document.specs.Document.{Document}
use Rattle.xcf.specs.Opened.{Opens}
use Rattle.xl_ports.specs.Disk.{Between, IsQuiet}
use Rattle.xl_ports.specs.Faults.{Rose}
use Rattle.xl_ports.specs.State.{ShelfState}
use Rattle.xcf_sessions.specs.declared.errors.NotShared.{NotShared}
use Rattle.xcf_sessions.specs.declared.errors.NotShared.TheVariants.{NoName, NotOpened}
use Rattle.xcf_sessions.specs.Seen.{Seen, first_seen}

-- The name is selected on the shelf, and no draft is open. What is kept under any name is as before, and no fault came.
pub record IsSelected (name : List ℕ) (before after : ShelfState) : Type 0 where
  pub selected : after.selected ≡ Some name
  pub closed : after.is_open ≡ false
  pub quiet : Between before.disk after.disk IsQuiet
  pub loads : after.loads ≡ before.loads
  pub reading : after.reading ≡ before.reading
  pub saving : after.saving ≡ before.saving

-- the image that the file holds, without entries, and the shelf on which the name is selected
pub record IsOpened {K : Type 0} (see : K → ShelfState) (file name : List ℕ) (shelf : K) (seen : Seen K) : Type 0 where
  pub image : Opens {A = Document} file (λ d. d) (Ok seen.base)
  pub first : seen ≡ first_seen seen.base seen.shelf
  pub selects : IsSelected name (see shelf) (see seen.shelf)

-- the shelf failed: it became one with more reading faults
pub record HasFailed {K : Type 0} (see : K → ShelfState) (shelf : K) : Type 0 where
  pub left : K
  pub fault : Rose (see shelf).reading (see left).reading

-- such an image; or the file's first fault, or the shelf failed
abbrev pub OpensShared : {K : Type 0} → (see : K → ShelfState) → (file name : List ℕ) → (shelf : K) → Result (Seen K) NotShared
    → Type 0
OpensShared see file name shelf (Ok seen) = IsOpened see file name shelf seen
OpensShared see file name shelf (Err (NotOpened flaw)) = Opens {A = Document} file (λ d. d) (Err flaw)
OpensShared see file name shelf (Err NoName) = HasFailed see shelf
