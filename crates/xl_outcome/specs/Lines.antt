-- How the line of a stop is written.
use Rattle.std.specs.Prelude.{ℕ, List, ◌⊎◌, Option}
use Rattle.xl_ports.specs.Sink.{WritesAll, WritesPart}

-- the line was written and nothing else; or a fault came, and the front of it was written
abbrev pub WritesLine : {K : Type 0} (held : K → Option (List ℕ)) (faults : K → ℕ) (old new : K) (text : List ℕ) → Type 0
WritesLine held faults old new text = WritesAll held faults old new text ⊎ WritesPart held faults old new text
