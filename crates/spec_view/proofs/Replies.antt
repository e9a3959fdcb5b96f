-- A call that is made in one state has one list of tables and, where the session is alone, one reply.
use Rattle.std.proofs.Common.{◌≡◌, ℕ, List, [], refl, sym, ◌∙◌, ap}
use Rattle.std.specs.Prelude.{Bool, true, false, if◌then◌else◌, Option, Some, None, Result, Ok, Err}
use Rattle.spec_document.specs.Document.{Document}
use Rattle.spec_edit.specs.Edit.{Edit}
use Rattle.spec_edit.specs.Apply.{At, Refused, apply_group}
use Rattle.spec_filters.specs.declared.FilterState.{FilterState}
use Rattle.spec_history.specs.Machine as machine
use Rattle.spec_history.specs.Machine.{Call, Reply, State, latest, document_at, names, made, moved, stays, answer}
use Rattle.spec_history.specs.History.{Entry, asked, is_changed, latest_of, Answers, PeekAnswers, MayPeek}
use Rattle.spec_history.specs.Kept.{kept}
use Rattle.spec_history.specs.Slots.{kept_peek}
use Rattle.spec_tables.specs.Tables.{edits_made, tables_for, expected_tables}
use Rattle.spec_tables.specs.Acceptance.{refused_in}
use Rattle.spec_tables.proofs.Accepted.{same_refused}
use Rattle.spec_tables.proofs.Made.{tables_made}
use Rattle.spec_text.specs.Text.{IsAlone, IsAlonePeek}

-- ---- tables

changes-made : (s : State) (old : At) (edits : List Edit) (tables others : List (List ℕ)) (r q : Result At Refused)
    → refused_in r ≡ refused_in q
    → is_changed (made s old edits tables r).reply ≡ is_changed (made s old edits others q).reply
changes-made s old edits tables others (Ok m) (Ok n) same = refl
changes-made s old edits tables others (Ok m) (Err f) same = cc
changes-made s old edits tables others (Err e) (Ok n) same = cc
changes-made s old edits tables others (Err e) (Err f) same = refl

changes-guarded : (b : Bool) (x y z : machine.Answer) → is_changed x.reply ≡ is_changed y.reply
    → is_changed (if b then x else z).reply ≡ is_changed (if b then y else z).reply
changes-guarded true x y z same = same
changes-guarded false x y z same = refl

-- whether a group changes the document is the same with any tables
changes : (base : Document) (s : State) (guard : Option ℕ) (edits : List Edit) (tables others : List (List ℕ))
    → is_changed (answer base s (machine.edit guard edits) tables).reply
    ≡ is_changed (answer base s (machine.edit guard edits) others).reply
changes base s guard edits tables others =
    let old : At = record { document = document_at base s (latest s); next = s.next_id } in
    changes-guarded (names guard (latest s)) (made s old edits tables (apply_group old edits tables))
    (made s old edits others (apply_group old edits others))
    (stays s (moved (latest s)))
    (changes-made s old edits tables others (apply_group old edits tables) (apply_group old edits others)
    (same_refused 0 old old edits tables others refl refl))

same_edits : (base : Document) (s : State) (c : Call) (tables others : List (List ℕ)) (r q : Reply)
    → Answers base s c tables r → Answers base s c others q → edits_made c r ≡ edits_made c q
same_edits base s (machine.edit guard edits) tables others r q this that =
    let none : List Edit = [] in
    ap (λ b. if b then edits else none) (ap is_changed this ∙ (changes base s guard edits tables others ∙ sym (ap is_changed that)))
same_edits base s (machine.undo named) tables others r q this that = refl
same_edits base s machine.redo tables others r q this that = refl
same_edits base s (machine.tile stack at) tables others r q this that = refl
same_edits base s (machine.peek stack at) tables others r q this that = refl
same_edits base s machine.top tables others r q this that = refl

-- filters in one state answer the same tables
pub same_tables : (base : Document) (s : State) (filters : List FilterState) (c : Call) (tables others : List (List ℕ))
    (r q : Reply)
    → Answers base s c tables r → Answers base s c others q
    → tables ≡ expected_tables filters (asked c tables) r → others ≡ expected_tables filters (asked c others) q → tables ≡ others
same_tables base s filters c tables others r q this that left right =
    left ∙ (tables_made filters c tables r
    ∙ (ap (tables_for filters) (same_edits base s c tables others r q this that)
    ∙ (sym (tables_made filters c others q) ∙ sym right)))

-- ---- replies

chosen : (base : Document) (s : State) (stack : ℕ) (k : Option ℕ) (now : ℕ) (r : Reply)
    → MayPeek base s stack r → IsAlonePeek k now r → r ≡ kept_peek k now
chosen base s stack k now (machine.tile_of version) may alone = alone
chosen base s stack k now (machine.stale None seen) may alone = alone
chosen base s stack k now (machine.stale (Some have) seen) may alone = alone
chosen base s stack k now (machine.changed version group next) may alone = absurd may
chosen base s stack k now (machine.refused index cause) may alone = absurd may
chosen base s stack k now (machine.moved at) may alone = absurd may
chosen base s stack k now machine.nothing_to_undo may alone = absurd may
chosen base s stack k now machine.nothing_to_redo may alone = absurd may
chosen base s stack k now (machine.not_top top) may alone = absurd may
chosen base s stack k now (machine.no_stack node) may alone = absurd may
chosen base s stack k now machine.outside_tile may alone = absurd may
chosen base s stack k now (machine.top_is group version) may alone = absurd may
chosen base s stack k now (machine.saved version) may alone = absurd may
chosen base s stack k now (machine.save_fault version) may alone = absurd may
chosen base s stack k now (machine.save_memory version) may alone = absurd may
chosen base s stack k now machine.history_full may alone = absurd may

-- the reply of the machine, or what is kept
same_peek : (base : Document) (s : State) (stack : ℕ) (k : Option ℕ) (now : ℕ) (plain r q : Reply)
    → PeekAnswers base s stack plain r → PeekAnswers base s stack plain q → IsAlonePeek k now r → IsAlonePeek k now q → r ≡ q
same_peek base s stack k now (machine.tile_of version) r q this that left right =
    chosen base s stack k now r this left ∙ sym (chosen base s stack k now q that right)
same_peek base s stack k now (machine.changed version group next) r q this that left right = this ∙ sym that
same_peek base s stack k now (machine.refused index cause) r q this that left right = this ∙ sym that
same_peek base s stack k now (machine.moved at) r q this that left right = this ∙ sym that
same_peek base s stack k now machine.nothing_to_undo r q this that left right = this ∙ sym that
same_peek base s stack k now machine.nothing_to_redo r q this that left right = this ∙ sym that
same_peek base s stack k now (machine.not_top top) r q this that left right = this ∙ sym that
same_peek base s stack k now (machine.stale have seen) r q this that left right = this ∙ sym that
same_peek base s stack k now (machine.no_stack node) r q this that left right = this ∙ sym that
same_peek base s stack k now machine.outside_tile r q this that left right = this ∙ sym that
same_peek base s stack k now (machine.top_is group version) r q this that left right = this ∙ sym that
same_peek base s stack k now (machine.saved version) r q this that left right = this ∙ sym that
same_peek base s stack k now (machine.save_fault version) r q this that left right = this ∙ sym that
same_peek base s stack k now (machine.save_memory version) r q this that left right = this ∙ sym that
same_peek base s stack k now machine.history_full r q this that left right = this ∙ sym that

pub same_reply : (base : Document) (s : State) (earlier : List Entry) (c : Call) (tables : List (List ℕ)) (r q : Reply)
    (later after : List Entry)
    → Answers base s c tables r → Answers base s c tables q
    → IsAlone base earlier (asked c tables) r later → IsAlone base earlier (asked c tables) q after → r ≡ q
same_reply base s earlier (machine.edit guard edits) tables r q later after this that left right = this ∙ sym that
same_reply base s earlier (machine.undo named) tables r q later after this that left right = this ∙ sym that
same_reply base s earlier machine.redo tables r q later after this that left right = this ∙ sym that
same_reply base s earlier (machine.tile stack at) tables r q later after this that left right = this ∙ sym that
same_reply base s earlier (machine.peek stack at) tables r q later after this that left right =
    same_peek base s stack (kept base earlier stack at) (latest_of earlier)
    (answer base s (machine.peek stack at) tables).reply r q this that left right
same_reply base s earlier machine.top tables r q later after this that left right = this ∙ sym that
