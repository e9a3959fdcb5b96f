-- An editor gets no other reply than those that it tells.
use Rattle.std.proofs.Common.{◌≡◌, ℕ, Bool, true, false, cond, List, [], ◌∷◌, sym, subst}
use Rattle.std.specs.Prelude.{Option, Result, Ok, Err, MatchBool}
use Rattle.spec_document.specs.Document.{Document}
use Rattle.spec_edit.specs.Apply.{At, Refused, apply_group}
use Rattle.spec_edit.specs.Edit.{Edit}
use Rattle.spec_history.specs.Machine as machine
use Rattle.spec_history.specs.Machine.{Answer, Call, Reply, Done, State, answer, made, names, undo_answer, redo_answer}
use Rattle.spec_history.specs.History.{replay}
use Rattle.xl_core.specs.History.{History, Answers, is_full, reply_to}
use Rattle.xcf.specs.Asked.{IsOwn, IsOwnCall}

own_made : (s : State) (old : At) (es : List Edit) (came : Result At Refused) → IsOwn (made s old es [] came).reply
own_made s old es (Ok new) = tt
own_made s old es (Err r) = tt

own_where : (named : Bool) (a b : Answer) → IsOwn a.reply → IsOwn b.reply → IsOwn (cond named a b).reply
own_where true a b is then = is
own_where false a b is then = then

own_undo : (s : State) (named : Option ℕ) (done : List Done) → IsOwn (undo_answer s named done).reply
own_undo s named [] = tt
own_undo s named (d ∷ ds) = own_where (names named d.group) _ _ tt tt

own_redo : (s : State) (done : List Done) → IsOwn (redo_answer s done).reply
own_redo s [] = tt
own_redo s (d ∷ ds) = tt

pub own_answer : (base : Document) (s : State) (call : Call) → IsOwnCall call → IsOwn (answer base s call []).reply
own_answer base s (machine.edit guard es) own =
    let old : At = record { document = machine.document_at base s (machine.latest s); next = s.next_id } in
    own_where (names guard (machine.latest s)) _ _ (own_made s old es (apply_group old es [])) tt
own_answer base s (machine.undo named) own = own_undo s named s.undo
own_answer base s machine.redo own = own_redo s s.redo
own_answer base s (machine.tile stack at) own = absurd own
own_answer base s (machine.peek stack at) own = absurd own
own_answer base s machine.top own = absurd own

by_room : (full : Bool) (r answered : Reply) (A B : Type 0) → IsOwn answered
    → MatchBool full ((r ≡ machine.history_full) × A) ((r ≡ answered) × B) → IsOwn r
by_room true r answered A B own is = subst IsOwn (sym is.0) tt
by_room false r answered A B own is = subst IsOwn (sym is.0) own

pub own : (old new : History) (call : Call) (r : Reply) → IsOwnCall call → Answers old 0 call [] r new → IsOwn r
own old new call r is answers =
    by_room (is_full old) r (reply_to old call []) _ _ (own_answer old.base (replay old.base old.entries) call is) answers
