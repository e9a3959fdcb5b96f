-- The whole text of session 0 alone, with the order line, is one of a script whose lines are all of that session.
use Rattle.std.proofs.Common.{◌≡◌, ℕ, zero, suc, ◌≤◌, List, [], ◌∷◌, ◌++◌, refl, ap, sym, ◌∙◌, arith, append-nil, subst, flat_map}
use Rattle.std.specs.Prelude.{Vec, map, string_bytes}
use Rattle.std.specs.declared.alloc.Global.{Global}
use Rattle.std.specs.List.{AllByRecursion}
use Rattle.std.proofs.lemmas.List.Concat.{flat_map-cons}
use Rattle.spec_document.specs.Document.{Document}
use Rattle.spec_filters.specs.declared.FilterState.{FilterState}
use Rattle.spec_document.specs.Rect.{count_from}
use Rattle.spec_history.specs.History.{Entry, mine}
use Rattle.spec_history.specs.Kept.{IsFresh}
use Rattle.spec_saves.specs.Names.{save_faults}
use Rattle.spec_run.specs.Fronts.{AreBegun, IsFrontOf}
use Rattle.spec_run.proofs.Fronts.{front_first}
use Rattle.spec_script.specs.Script.{Line}
use Rattle.spec_tables.specs.Tables.{HaveTables}
use Rattle.spec_text.specs.Printed.{order_text}
use Rattle.spec_text.specs.Text.{AreAlone, IsTextOf, entry_line, calls_of, calls_in}
use Rattle.xl_filters.specs.Chests.{states_of}
use Rattle.spec_script.specs.Script.{list_at}
use Rattle.xl_run.specs.Filters.{boxes_at}
use Rattle.xl_run.proofs.Boxes.{states_at}
use Rattle.spec_run.specs.Failed.{WhetherFailed}
use Rattle.xl_play.specs.Told.{IsToldOf}
use Rattle.xl_play.specs.declared.playing.Replies.{Replies}
use Rattle.spec_run.specs.First.{AreOfFirst}
use Rattle.xl_play.specs.Playing.{AreMade, AreOf, ArePlayed, lines_in}
use Rattle.spec_text.specs.Text.{calls_along}
use Rattle.xl_play.proofs.Plain.{mine_own, mine_other}
use Rattle.xl_play.proofs.Seen.{fresh_other}

-- ---- the other sessions have neither lines nor entries

blank_at : (lists : List (List Line)) (n : ℕ) → AllByRecursion (λ lines. lines ≡ []) lists → list_at lists n ≡ []
blank_at [] n all = refl
blank_at (lines ∷ lists) zero all = all.0
blank_at (lines ∷ lists) (suc n) all = blank_at lists n all.1

blank_later : (lists : List (List Line)) (n : ℕ) → AreOfFirst lists → list_at lists (suc n) ≡ []
blank_later [] n first = refl
blank_later (lines ∷ lists) n first = blank_at lists n first

none_later : (es : List Entry) (n : ℕ) → AreOf 0 es → 1 ≤ n → mine es n ≡ []
none_later es n own some = mine_other es 0 n own (λ q. omega (arith, q, some))

-- ---- the text

none_from : {A : Type 0} (f : ℕ → List A) (first n : ℕ) → ((k : ℕ) → first ≤ k → f k ≡ []) → flat_map f (count_from first n) ≡ []
none_from f first zero none = refl
none_from f first (suc n) none =
    let here = none first (omega arith) in
    let rest = none_from f (suc first) n (λ k le. none k (omega arith)) in
    flat_map-cons f first (count_from (suc first) n) ∙ rw (here, rest) refl

-- the lines of the sessions, in the order of the sessions
abbrev of_session : Document → List Entry → ℕ → List ℕ
of_session base es = λ session. flat_map (entry_line base es) (mine es session)

text_of_own : (base : Document) (es : List Entry) → AreOf 0 es → flat_map (of_session base es) (count_from 0 8) ≡ lines_in base es
text_of_own base es own =
    flat_map-cons (of_session base es) 0 (count_from 1 7)
    ∙ ap (λ (rest : List ℕ). of_session base es 0 ++ rest)
    (none_from (of_session base es) 1 7 (λ k some. ap (flat_map (entry_line base es)) (none_later es k own some)))
    ∙ append-nil (of_session base es 0)
    ∙ ap (flat_map (entry_line base es)) (mine_own es 0 own)

-- ---- what a text of the script needs of each session

calls_at : (lists : List (List Line)) (es : List Entry) (session : ℕ) → AreOf 0 es → AreOfFirst lists
    → calls_along es ≡ calls_of (list_at lists 0) → calls_in es session ≡ calls_of (list_at lists session)
calls_at lists es zero own first calls = ap (λ (l : List Entry). calls_along l) (mine_own es 0 own) ∙ calls
calls_at lists es (suc n) own first calls =
    ap (λ (l : List Entry). calls_along l) (none_later es (suc n) own (omega arith)) ∙ sym (ap calls_of (blank_later lists n first))

fresh_at : (es : List Entry) (session : ℕ) → AreOf 0 es → IsFresh es 0 → IsFresh es session
fresh_at es zero own fresh = fresh
fresh_at es (suc n) own fresh = fresh_other es (suc n) own (omega arith)

tables_at : (chests : List (List FilterState)) (es : List Entry) (session : ℕ) → AreOf 0 es → HaveTables (list_at chests 0) es
    → HaveTables (list_at chests session) (mine es session)
tables_at chests es zero own tables = subst (HaveTables (list_at chests 0)) (sym (mine_own es 0 own)) tables
tables_at chests es (suc n) own tables =
    subst (HaveTables (list_at chests (suc n))) (sym (none_later es (suc n) own (omega arith))) tt

-- the text and the order line
whole_text : (base opened : Document) (lists : List (List Line)) (chests : List (List FilterState)) (es : List Entry)
    (front out : List ℕ) → out ≡ front ++ order_text es → base ≡ opened → AreOfFirst lists → ArePlayed base es front
    → AreMade (list_at chests 0) (list_at lists 0) es → IsTextOf out opened lists chests es
whole_text base opened lists chests es front out whole same first played made =
    subst (λ (d : Document). IsTextOf out d lists chests es) same (record {
      legal = played.legal;
      ended = played.ended;
      printable = played.printable;
      calls = λ session below. calls_at lists es session played.own first made.calls;
      others = λ session above. none_later es session played.own (omega (arith, above));
      fresh = λ session below. fresh_at es session played.own played.fresh;
      tables = λ session below. tables_at chests es session played.own made.tables;
      text = whole ∙ ap (λ (o : List ℕ). o ++ order_text es) (played.text ∙ sym (text_of_own base es played.own));
    })

-- The first calls of session 0 are a front of the script.
pub front_alone : {B : Type 0} (state : B → FilterState) (lists : List (List Line)) (boxes : List (Vec B Global)) (items : List B)
    (lines : List Line) (es : List Entry) → lines ≡ list_at lists 0 → items ≡ boxes_at boxes 0 → AreOf 0 es
    → AreBegun (map state items) lines es → IsFrontOf lists (states_of state boxes) es
front_alone state lists boxes items lines es own first_items of begun =
    let filters : map state items ≡ list_at (states_of state boxes) 0 = ap (map state) first_items ∙ sym (states_at state boxes 0) in
    front_first lists (states_of state boxes) es (λ session some. none_later es session of some)
    (subst (AreBegun (list_at (states_of state boxes) 0) (list_at lists 0)) (sym (mine_own es 0 of))
    (subst (λ (ls : List Line). AreBegun (list_at (states_of state boxes) 0) ls es) own
    (subst (λ (fs : List FilterState). AreBegun fs lines es) filters begun)))

-- What is told of session 0: its text is one of the script, and the one that follows from the document, the calls and the filters
-- where no save failed.
pub told_alone : {B : Type 0} (state : B → FilterState) (base opened : Document) (lists : List (List Line))
    (boxes : List (Vec B Global)) (items : List B) (lines : List Line) (es : List Entry) (front : List ℕ) (told : Replies)
    → string_bytes told.text ≡ front ++ order_text es → base ≡ opened → lines ≡ list_at lists 0 → items ≡ boxes_at boxes 0
    → AreOfFirst lists → ArePlayed base es front → AreMade (map state items) lines es
    → WhetherFailed told.save_failed (save_faults es) → IsToldOf opened lists (states_of state boxes) 0 es told
told_alone state base opened lists boxes items lines es front told whole same own first_items first played made failed =
    let chests = states_of state boxes in
    let filters : map state items ≡ list_at chests 0 = ap (map state) first_items ∙ sym (states_at state boxes 0) in
    let made_own : AreMade (list_at chests 0) (list_at lists 0) es =
    subst (λ (ls : List Line). AreMade (list_at chests 0) ls es) own
    (subst (λ (fs : List FilterState). AreMade fs lines es) filters made) in
    let text = whole_text base opened lists chests es front (string_bytes told.text) whole same first played made_own in
    record {
      text = text;
      alone = λ no_workers only none.
          (es, text, played.own, subst (λ (d : Document). AreAlone d [] es) same (played.alone none));
      failed = failed;
    }
