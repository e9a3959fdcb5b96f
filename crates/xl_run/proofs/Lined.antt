-- Each entry of a legal history has a line, where no save ended as out of memory.
use Rattle.std.proofs.Common.{◌≡◌, ℕ, ◌+◌, Bool, true, false, cond, not, List, [], ◌∷◌, ◌++◌, Option, Some, None}
use Rattle.std.proofs.Common.{Result, Ok, Err, sym, subst}
use Rattle.std.specs.List.{AllByRecursion}
use Rattle.spec_document.specs.Document.{Document}
use Rattle.spec_edit.specs.Apply.{At, Refused, apply_group}
use Rattle.spec_edit.specs.Edit.{Edit}
use Rattle.spec_document.specs.declared.TileAt.{TileAt}
use Rattle.spec_document.specs.Grid.{is_on_grid}
use Rattle.spec_history.specs.Machine.{Call, edit, undo, redo, tile, peek, top, Reply, tile_of, stale, no_stack}
use Rattle.spec_history.specs.Machine.{outside_tile, saved, save_fault, save_memory, State, Saving, Done, Answer}
use Rattle.spec_history.specs.Machine.{stays, made, names, moved, again, latest, document_at, has_stack, tile_reply}
use Rattle.spec_history.specs.Machine.{undo_answer, redo_answer, answer, changed, not_top, initial}
use Rattle.spec_history.specs.History.{Entry, Kind, asked, starts, ends, after_entry, MayPeek, PeekAnswers, MayEnd, MayBe, RunFrom}
use Rattle.spec_history.specs.Kept.{IsLegal}
use Rattle.spec_text.specs.Text.{is_save_memory}
use Rattle.xl_run.specs.Printing.{IsPrinted}

either : (b : Bool) (x y : Answer) → IsPrinted x.reply → IsPrinted y.reply → IsPrinted (cond b x y).reply
either true x y p q = p
either false x y p q = q

either_reply : (b : Bool) (x y : Reply) → IsPrinted x → IsPrinted y → IsPrinted (cond b x y)
either_reply true x y p q = p
either_reply false x y p q = q

made_lined : (s : State) (old : At) (edits : List Edit) (tables : List (List ℕ)) (r : Result At Refused)
    → IsPrinted (made s old edits tables r).reply
made_lined s old edits tables (Err r) = tt
made_lined s old edits tables (Ok new) = tt

abbrev after_undo : State → Done → List Done → Answer
after_undo s d ds = record {
  reply = changed (latest s + 1) d.group s.next_id;
  state = record (again s d.before d.after) { undo = ds; redo = d ∷ s.redo };
}

undo_lined : (s : State) (named : Option ℕ) (ds : List Done) → IsPrinted (undo_answer s named ds).reply
undo_lined s named [] = tt
undo_lined s named (d ∷ ds) = either (names named d.group) (after_undo s d ds) (stays s (not_top d.group)) tt tt

redo_lined : (s : State) (ds : List Done) → IsPrinted (redo_answer s ds).reply
redo_lined s [] = tt
redo_lined s (d ∷ ds) = tt

tile_lined : (d : Document) (stack : ℕ) (at : TileAt) (version : ℕ) → IsPrinted (tile_reply d stack at (tile_of version))
tile_lined d stack at version =
    either_reply (not (has_stack d stack)) (no_stack stack)
    (cond (not (is_on_grid d.width d.height at)) outside_tile (tile_of version)) tt
    (either_reply (not (is_on_grid d.width d.height at)) outside_tile (tile_of version) tt tt)

answer_lined : (base : Document) (s : State) (c : Call) (tables : List (List ℕ)) → IsPrinted (answer base s c tables).reply
answer_lined base s (edit guard edits) tables =
    let old : At = record { document = document_at base s (latest s); next = s.next_id } in
    let done : Answer = made s old edits tables (apply_group old edits tables) in
    either (names guard (latest s)) done (stays s (moved (latest s)))
    (made_lined s old edits tables (apply_group old edits tables)) tt
answer_lined base s (undo named) tables = undo_lined s named s.undo
answer_lined base s redo tables = redo_lined s s.redo
answer_lined base s (tile stack at) tables = tile_lined (document_at base s (latest s)) stack at (latest s)
answer_lined base s (peek stack at) tables = tile_lined (document_at base s (latest s)) stack at (latest s)
answer_lined base s top tables = tt

may_peek_lined : (base : Document) (s : State) (stack : ℕ) (r : Reply) → MayPeek base s stack r → IsPrinted r
may_peek_lined base s stack (tile_of version) may = tt
may_peek_lined base s stack (stale have seen) may = tt
may_peek_lined base s stack r may = absurd may

peek_lined : (base : Document) (s : State) (stack : ℕ) (plain r : Reply) → IsPrinted plain → PeekAnswers base s stack plain r
    → IsPrinted r
peek_lined base s stack (tile_of version) r p may = may_peek_lined base s stack r may
peek_lined base s stack plain r p may = subst IsPrinted (sym may) p

end_lined : (out : Option Saving) (session index : ℕ) (r : Reply) → MayEnd out session index r → is_save_memory r ≡ false
    → IsPrinted r
end_lined None session index r may h = absurd may
end_lined (Some o) session index (saved version) may h = tt
end_lined (Some o) session index (save_fault version) may h = tt
end_lined (Some o) session index (save_memory version) may h = let bad : true ≡ false = h in cc
end_lined (Some o) session index r may h = absurd may.2

asked_lined : (base : Document) (s : State) (earlier : List Entry) (e : Entry) (c : Call) (tables : List (List ℕ))
    → MayBe base s earlier e (asked c tables) → IsPrinted e.reply
asked_lined base s earlier e (peek stack at) tables may =
    peek_lined base s stack (answer base s (peek stack at) tables).reply e.reply (answer_lined base s (peek stack at) tables) may.1
asked_lined base s earlier e c tables may = subst IsPrinted (sym may.1) (answer_lined base s c tables)

entry_lined : (base : Document) (s : State) (earlier : List Entry) (e : Entry) (k : Kind) → MayBe base s earlier e k
    → is_save_memory e.reply ≡ false → IsPrinted e.reply
entry_lined base s earlier e (asked c tables) may h = asked_lined base s earlier e c tables may
entry_lined base s earlier e starts may h = subst IsPrinted (sym may.2) tt
entry_lined base s earlier e ends may h = end_lined s.out e.session e.index e.reply may h

run_lined : (base : Document) (s : State) (earlier es : List Entry) → RunFrom base s earlier es
    → AllByRecursion (λ e. is_save_memory e.reply ≡ false) es
    → AllByRecursion (λ e. IsPrinted e.reply) es
run_lined base s earlier [] run h = tt
run_lined base s earlier (e ∷ es) run h =
    (entry_lined base s earlier e e.kind run.0 h.0, run_lined base (after_entry base s e) (earlier ++ e ∷ []) es run.1 h.1)

pub legal_has_lines : (base : Document) (es : List Entry) → IsLegal base es
    → AllByRecursion (λ e. is_save_memory e.reply ≡ false) es
    → AllByRecursion (λ e. IsPrinted e.reply) es
legal_has_lines base es legal h = run_lined base (initial base) [] es legal.run h

-- a call that is the last entry of a legal history is printed, so that its reply is none of a full history
last_lined : (base : Document) (s : State) (earlier es : List Entry) (e : Entry) (c : Call) (tables : List (List ℕ))
    → e.kind ≡ asked c tables → RunFrom base s earlier (es ++ e ∷ []) → IsPrinted e.reply
last_lined base s earlier [] e c tables is run = asked_lined base s earlier e c tables (subst (MayBe base s earlier e) is run.0)
last_lined base s earlier (x ∷ es) e c tables is run =
    last_lined base (after_entry base s x) (earlier ++ x ∷ []) es e c tables is run.1

pub last_is_printed : (base : Document) (es : List Entry) (e : Entry) (c : Call) (tables : List (List ℕ))
    → e.kind ≡ asked c tables → IsLegal base (es ++ e ∷ []) → IsPrinted e.reply
last_is_printed base es e c tables is legal = last_lined base (initial base) [] es e c tables is legal.run
