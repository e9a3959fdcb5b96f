-- What is read of a file.
use Rattle.std.specs.Prelude.{Option, IfSome, Result, Ok, Err}
use Rattle.xl_commands.specs.declared.loading.Loaded.{Loaded}
use Rattle.xl_outcome.specs.Files.{HasLength}
use Rattle.xl_outcome.specs.Parts.{Loads}
use Rattle.xl_outcome.specs.declared.stopped.Stopped.{Stopped}
use Rattle.xl_ports.specs.Shelf.{Content}

-- the document of the file with the length of the file, or its first fault
abbrev pub LoadsMeasured : Option Content → Result Loaded Stopped → Type 0
LoadsMeasured content (Ok loaded) = Loads content (Ok loaded.document) × IfSome content (λ c. HasLength c loaded.length)
LoadsMeasured content (Err stopped) = Loads content (Err stopped)
