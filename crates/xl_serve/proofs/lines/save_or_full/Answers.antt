use Rattle.std.proofs.lemmas.Bool.{ltb-false}
use Rattle.std.proofs.lemmas.Result.{IfOk-weaker}
use Rattle.std.proofs.Common.{◌+◌, ◌≤◌, length, sym, ◌∙◌, arith}
use Rattle.spec_history.specs.declared.TheConstants.{MAX_ENTRIES}
use Rattle.spec_script.specs.Script as script
use Rattle.spec_serve.specs.declared.TheConstants.{ROOM_FOR_SAVES}
use Rattle.xl_serve.proofs.Playing.{full_played}
use Rattle.xl_serve.proofs.Submitting.{stays_on}
use Rattle.xl_serve.proofs.lines.save_or_full.Goals as goal

pub returns-clause-goes_on : goal.returns-clause-goes_on
returns-clause-goes_on g c = stays_on c.args.core.now c.requires.ready

pub returns-then-has_room_for_save-clause-played : goal.returns-then-has_room_for_save-clause-played
returns-then-has_room_for_save-clause-played g c = IfOk-weaker c.play_save.result _ _ (λ text made. made _) c.play_save.ensures.played

pub returns-clause-played : goal.returns-clause-played
returns-clause-played g c =
    let h = c.args.core.now.history in
    let none : MAX_ENTRIES ≤ length h.entries + 1 =
    ltb-false (length h.entries + 1) MAX_ENTRIES (sym c.has_room_for_save.ensures ∙ c.if-has_room_for_save.false) in
    let room : MAX_ENTRIES ≤ length h.entries + ROOM_FOR_SAVES = omega (arith, none) in
    IfOk-weaker c.full.result _ _ (λ text is. full_played h c.args.session script.save _ text.items tt room is) c.full.ensures
