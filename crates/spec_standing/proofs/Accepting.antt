-- What stands accepts a group of edits where the machine does.
use Rattle.std.proofs.Common.{◌≡◌, ℕ, ◌+◌, ◌<◌, Bool, true, false, cond, not, nat_le, List, [], length, refl, sym, ◌∙◌, ap, subst, arith}
use Rattle.std.specs.Prelude.{Option, Result, Ok, Err, is_ok, ◌&&◌}
use Rattle.std.proofs.lemmas.Bool.Decides.{nat_tests}
use Rattle.spec_document.specs.Document.{Document}
use Rattle.spec_edit.specs.Edit.{Edit}
use Rattle.spec_edit.specs.Apply.{At, Refused, apply_group}
use Rattle.spec_filters.specs.declared.FilterState.{FilterState}
use Rattle.spec_history.specs.Machine as machine
use Rattle.spec_history.specs.Machine.{Call, State, latest, document_at, names, made, stays}
use Rattle.spec_history.specs.declared.TheConstants.{MAX_ENTRIES}
use Rattle.spec_history.specs.History.{Entry, is_changed, replay}
use Rattle.spec_world.specs.World.{entries_owed}
use Rattle.spec_tables.specs.Agrees.{IsPartUsed, IsPartAfter}
use Rattle.spec_standing.specs.History.{History, is_accepted, reply_to}
use Rattle.spec_standing.specs.Now.{Now, Stands, accepts}

-- a group of edits is answered by a change where its guard has not moved and none of its edits is refused
changed_where : (s : State) (old : At) (edits : List Edit) (named : Bool) (r : Result At Refused)
    → named && is_ok r ≡ is_changed (cond named (made s old edits [] r) (stays s (machine.moved (latest s)))).reply
changed_where s old edits true (Ok new) = refl
changed_where s old edits true (Err refused) = refl
changed_where s old edits false r = refl

-- the filters of a call that is no group are none
none_else : (b : Bool) (old new : List (Option FilterState)) → IsPartUsed old new [] → IsPartUsed old new (cond b [] [])
none_else true old new part = part
none_else false old new part = part

-- so what is left where memory runs out is that of the history
pub part_in_history : (base : Document) (entries : List Entry) (now : Now) (made : List ℕ) (call : Call)
    (old new : List (Option FilterState)) → Stands base entries now made
    → length entries + entries_owed (replay base entries).out < MAX_ENTRIES → IsPartAfter (accepts now call) old new call
    → IsPartAfter (is_accepted (record { base = base; entries = entries }) call) old new call
part_in_history base entries now made (machine.edit guard edits) old new stands few part =
    let s = replay base entries in
    let h : History = record { base = base; entries = entries } in
    let at : At = record { document = document_at base s (latest s); next = s.next_id } in
    let room : nat_le MAX_ENTRIES (length entries + entries_owed s.out) ≡ false = grind (arith, nat_tests, few) in
    let same : accepts now (machine.edit guard edits) ≡ is_accepted h (machine.edit guard edits) =
    ap (λ n. accepts n (machine.edit guard edits)) stands.is_now
    ∙ (changed_where s at edits (names guard (latest s)) (apply_group at edits [])
    ∙ sym (ap (λ b. not b && is_changed (reply_to h (machine.edit guard edits) [])) room)) in
    subst (λ b. IsPartUsed old new (cond b edits [])) same part
part_in_history base entries now made (machine.undo named) old new stands few part =
    none_else (is_accepted (record { base = base; entries = entries }) (machine.undo named)) old new part
part_in_history base entries now made machine.redo old new stands few part =
    none_else (is_accepted (record { base = base; entries = entries }) machine.redo) old new part
part_in_history base entries now made (machine.tile stack at) old new stands few part =
    none_else (is_accepted (record { base = base; entries = entries }) (machine.tile stack at)) old new part
part_in_history base entries now made (machine.peek stack at) old new stands few part =
    none_else (is_accepted (record { base = base; entries = entries }) (machine.peek stack at)) old new part
part_in_history base entries now made machine.top old new stands few part =
    none_else (is_accepted (record { base = base; entries = entries }) machine.top) old new part
