-- What the calls of the code mean.
use Rattle.spec_history.specs.Machine as machine
use Rattle.xl_calls.specs.declared.call.Call.{Call}
use Rattle.xl_calls.specs.declared.call.Call.TheVariants.{Edit, Undo, Redo, Tile, Peek, Top}
use Rattle.xl_calls.specs.Edits.{edits_of}

abbrev pub call_of : Call → machine.Call
call_of (Edit group) = machine.edit group.guard (edits_of group.edits)
call_of (Undo named) = machine.undo named
call_of Redo = machine.redo
call_of (Tile node at) = machine.tile node.0 at
call_of (Peek node at) = machine.peek node.0 at
call_of Top = machine.top
