-- The save of a history that was acknowledged last, and the file behind it.
use Rattle.std.specs.Prelude.{◌≡◌, ℕ, List, [], ◌∷◌, Option, Some, None}
use Rattle.spec_document.specs.Document.{Document}
use Rattle.spec_history.specs.Kept.{or_earlier}
use Rattle.spec_history.specs.History.{Entry}
use Rattle.spec_saves.specs.Acknowledged.{acknowledged}
use Rattle.spec_saves.specs.Contents.{IsVersion}
use Rattle.xl_ports.specs.Disk.{Disk, MayLeave, LeavesJust}
use Rattle.xl_ports.specs.Shelf.{Content}

-- the version of the last save that was acknowledged
abbrev pub last_saved : List Entry → Option ℕ
last_saved [] = None
last_saved (e ∷ es) = or_earlier (last_saved es) (acknowledged e.kind e.reply)

-- A read gives a file of this version, and a crash leaves just that. Without a version a read gives what it gave, and a crash
-- leaves nothing else than it might have left.
abbrev pub HasVersion : (name : List ℕ) → Document → List Entry → Option ℕ → (was now : Disk) → Type 0
HasVersion name base es (Some version) was now = IsVersion base es version (now.read name) × LeavesJust now name (now.read name)
HasVersion name base es None was now =
    (now.read name ≡ was.read name) × ((c : Content) → MayLeave now name c → MayLeave was name c)

-- the same of the last save that was acknowledged
abbrev pub HasLastSaved : (name : List ℕ) → Document → List Entry → (was now : Disk) → Type 0
HasLastSaved name base es was now = HasVersion name base es (last_saved es) was now
