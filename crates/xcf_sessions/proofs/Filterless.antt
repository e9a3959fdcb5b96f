-- A call that names no filter is within its type, and needs nothing of a chest.
use Rattle.std.proofs.Common.{◌≡◌, [], refl}
use Rattle.spec_history.specs.Calls.{IsCall}
use Rattle.spec_history.specs.History.{asked}
use Rattle.spec_history.specs.Limited.{edits_of}
use Rattle.spec_history.specs.Machine as machine
use Rattle.spec_history.specs.Machine.{Call, Reply}
use Rattle.spec_tables.specs.Agrees.{AreThere}
use Rattle.spec_tables.specs.Tables.{expected_tables}
use Rattle.xcf.proofs.Asking.{call_is_there, expects_none}
use Rattle.xcf_sessions.specs.Answered.{IsFilterless}

pub within : (call : Call) → IsFilterless call → IsCall call
within (machine.edit guard es) plain = plain.0
within (machine.undo named) plain = tt
within machine.redo plain = tt
within (machine.tile stack at) plain = tt
within (machine.peek stack at) plain = tt
within machine.top plain = tt

pub there : (call : Call) → IsFilterless call → AreThere [] (edits_of call)
there (machine.edit guard es) plain = call_is_there (machine.edit guard es) plain
there (machine.undo named) plain = tt
there machine.redo plain = tt
there (machine.tile stack at) plain = tt
there (machine.peek stack at) plain = tt
there machine.top plain = tt

pub no_tables : (call : Call) (reply : Reply) → IsFilterless call → expected_tables [] (asked call []) reply ≡ []
no_tables (machine.edit guard es) reply plain = expects_none (machine.edit guard es) reply plain
no_tables (machine.undo named) reply plain = refl
no_tables machine.redo reply plain = refl
no_tables (machine.tile stack at) reply plain = refl
no_tables (machine.peek stack at) reply plain = refl
no_tables machine.top reply plain = refl
