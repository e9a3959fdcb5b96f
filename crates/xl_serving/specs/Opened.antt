-- What is known of a document that was read, before the first line of a talk over it.
use Rattle.std.specs.Prelude.{◌≡◌, ℕ, List, Some, IfSome}
use Rattle.spec_document.specs.Document.{Document}
use Rattle.spec_document.specs.Limits.{IsDocument}
use Rattle.xl_commands.specs.Files.{HoldsDocument}
use Rattle.xl_commands.specs.Outcome.{IsUntouched, LoadsFew}
use Rattle.xl_ports.specs.Disk.{read_at}
use Rattle.xl_ports.specs.State.{ShelfState}

pub record IsOpened (name : List ℕ) (before now : ShelfState) (document : Document) : Type 0 where
  pub held : IfSome (read_at before.disk name) (λ c. HoldsDocument c document)
  pub within : IsDocument document
  pub untouched : IsUntouched before now
  pub named : now.selected ≡ Some name
  pub reading : now.reading ≡ before.reading
  pub few : LoadsFew before now
