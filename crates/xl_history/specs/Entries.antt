-- What the entries of the code mean.
use Rattle.spec_history.specs.History as history
use Rattle.xl_history.specs.declared.entry.EntryKind.{EntryKind}
use Rattle.xl_history.specs.declared.entry.EntryKind.TheVariants.{Asked, Start, End}
use Rattle.xl_desk.specs.Calls.{call_of}

-- a call has the tables that its filters answered
abbrev pub kind_of : EntryKind → history.Kind
kind_of (Asked call tables) = history.asked (call_of call) tables
kind_of Start = history.starts
kind_of End = history.ends
