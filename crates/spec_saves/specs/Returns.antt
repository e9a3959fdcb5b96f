-- What a shelf has to keep that comes back from a save.
use Rattle.std.specs.Prelude.{◌≡◌, ◌⊎◌, ℕ, ◌≤◌, List, Option, Some, None}
use Rattle.spec_document.specs.Document.{Document}
use Rattle.spec_history.specs.History.{ends, Entry}
use Rattle.spec_world.specs.declared.SaveEnd.{SaveEnd}
use Rattle.spec_world.specs.declared.SaveEnd.TheVariants.{Done, Fault, Memory}
use Rattle.spec_world.specs.Events.{end_reply}
use Rattle.xl_ports.specs.Shelf.{Content}
use Rattle.xl_ports.specs.Faults.{Rose}
use Rattle.xl_ports.specs.Disk.{Disk, MayLeave, MightHaveLeft, LeavesJust, OthersStay}
use Rattle.xl_ports.specs.State.{ShelfState}
use Rattle.spec_saves.specs.Names.{names, files, out_version}
use Rattle.spec_saves.specs.Contents.{IsVersion, IsIn, IsSaved}
use Rattle.spec_saves.specs.Shelf.{file_name, IsSettled}

-- the end of the save that is out
abbrev pub end_entry : Document → List Entry → (session index : ℕ) → SaveEnd → Entry
end_entry base es session index how =
    record { session = session; index = index; kind = ends; reply = end_reply how (out_version base es) }

-- all are known or none, and where they are, this holds of them
abbrev pub Among : (opened handed now : Option Disk) → (Disk → Disk → Disk → Type 0) → Type 0
Among None None None R = Unit {0}
Among (Some opened) (Some handed) (Some now) R = R opened handed now
Among None None (Some now) R = ⊥
Among None (Some handed) None R = ⊥
Among None (Some handed) (Some now) R = ⊥
Among (Some opened) None None R = ⊥
Among (Some opened) None (Some now) R = ⊥
Among (Some opened) (Some handed) None R = ⊥

-- a save that is done left its version alone, one that found no memory left the file under the names that it had
abbrev pub EndsOn : SaveEnd → (name : List ℕ) → Document → List Entry → (opened now : Disk) → Type 0
EndsOn Done name base es opened now = IsVersion base es (out_version base es) (now.read name) × LeavesJust now name (now.read name)
EndsOn Fault name base es opened now = (c : Content) → MayLeave now name c → IsIn base es opened name c (files base es)
EndsOn Memory name base es opened now =
    ((c : Content) → MayLeave now name c → IsIn base es opened name c (names es)) × IsSettled (names es) name opened now

-- a file of a version that an ended save may have left, or that the save which is out may leave; one that found no memory leaves none
abbrev pub MayBeSaved : SaveEnd → Document → List Entry → Content → Type 0
MayBeSaved Done base es c = IsSaved base es c ⊎ IsVersion base es (out_version base es) c
MayBeSaved Fault base es c = IsSaved base es c ⊎ IsVersion base es (out_version base es) c
MayBeSaved Memory base es c = IsSaved base es c

-- what the file may hold under this name, now and at each moment since the shelf was handed out; other names stay
pub record DiskReturns (name : List ℕ) (base : Document) (es : List Entry) (how : SaveEnd) (opened handed now : Disk) : Type 0 where
  pub later : handed.moment ≤ now.moment
  pub within : (c : Content) → MightHaveLeft now name handed.moment c → IsIn base es opened name c (files base es)
  pub left : (since : ℕ) (c : Content) → since ≤ opened.moment → MightHaveLeft now name since c
      → MightHaveLeft opened name since c ⊎ MayBeSaved how base es c
  pub ends : EndsOn how name base es opened now
  pub elsewhere : OthersStay name handed now

-- only a fault raised the count
abbrev pub CountEnds : SaveEnd → (old new : ℕ) → Type 0
CountEnds Done old new = new ≡ old
CountEnds Fault old new = Rose old new
CountEnds Memory old new = new ≡ old

-- The shelf that was handed out comes back from the save that is out after these entries. A save that found no memory did not
-- touch it.
pub record Returns (opening handed : ShelfState) (base : Document) (es : List Entry) (how : SaveEnd) (now : ShelfState) : Type 0 where
  pub selected : now.selected ≡ opening.selected
  pub loads : now.loads ≡ handed.loads
  pub reading : now.reading ≡ handed.reading
  pub saving : CountEnds how handed.saving now.saving
  pub untouched : how ≡ Memory → now ≡ handed
  pub contents : Among opening.disk handed.disk now.disk (DiskReturns (file_name opening) base es how)
