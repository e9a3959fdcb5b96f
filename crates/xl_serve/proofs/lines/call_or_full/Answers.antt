use Rattle.std.proofs.lemmas.Bool.{ltb-false}
use Rattle.std.proofs.lemmas.Result.{IfOk-weaker}
use Rattle.std.proofs.Common.{◌+◌, ◌≤◌, length, sym, ◌∙◌}
use Rattle.spec_history.specs.declared.TheConstants.{MAX_ENTRIES}
use Rattle.spec_script.specs.Script as script
use Rattle.spec_serve.specs.declared.TheConstants.{ROOM_FOR_SAVES}
use Rattle.xl_calls.specs.Calls.{call_of}
use Rattle.xl_serve.proofs.Playing.{full_played}
use Rattle.xl_serve.proofs.Submitting.{stays_on}
use Rattle.xl_serve.proofs.lines.call_or_full.Goals as goal

pub returns-clause-goes_on : goal.returns-clause-goes_on
returns-clause-goes_on g c = stays_on c.args.core.now c.requires.ready

pub returns-clause-played : goal.returns-clause-played
returns-clause-played g c =
    let h = c.args.core.now.history in
    let room : MAX_ENTRIES ≤ length h.entries + ROOM_FOR_SAVES =
    ltb-false (length h.entries + ROOM_FOR_SAVES) MAX_ENTRIES (sym c.has_room.ensures ∙ c.if-has_room.false) in
    IfOk-weaker c.full.result _ _
    (λ text is. full_played h c.args.session (script.call (call_of c.args.call)) _ text.items tt room is) c.full.ensures
