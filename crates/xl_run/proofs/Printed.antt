-- The lines of the sessions, with the digests of the tiles that they were shown, are the printed text of the history.
use Rattle.std.proofs.Common.{◌≡◌, ℕ, zero, suc, ◌+◌, ◌<◌, ◌≤◌, ◌==◌, Bool, true, false, cond, List, [], ◌∷◌, ◌++◌}
use Rattle.std.proofs.Common.{Option, Some, None, refl, ap, sym, ◌∙◌, arith, append_assoc, flat_map, eq-eqb}
use Rattle.std.specs.Prelude.{◌&&◌, Result, Ok, Err, IfOk, drop, slice_get, unwrap_or}
use Rattle.std.proofs.lemmas.Bool.{cond-true, eqb-true}
use Rattle.std.proofs.Math.Bool.{and-false}
use Rattle.spec_document.specs.Document.{Document}
use Rattle.spec_document.specs.Rect.{count_from}
use Rattle.spec_history.specs.Machine as machine
use Rattle.spec_history.specs.Machine.{Reply, State, tile_of, initial}
use Rattle.spec_history.specs.History.{Entry, Kind, asked, starts, ends, is_end_kind, mine, next_index, after_entry, MayBe, RunFrom}
use Rattle.spec_history.specs.Kept.{IsLegal}
use Rattle.spec_text.specs.Printed.{line_text, order_text}
use Rattle.spec_text.specs.Text.{shown_digest, end_reply, entry_line, printed}
use Rattle.spec_seats.specs.Digests.{asks_tile, is_tile_reply, shows_tile, digests_in}
use Rattle.spec_seats.specs.Ended.{MayFollow, opened_by, AreEndedFrom, AreEnded}
use Rattle.xl_run.specs.Printing.{first_digest, lines_with, lines_of_sessions}
use Rattle.spec_text.proofs.Ends.{is_end_at, has_end, end_behind, no_end_more, AreBelow, below_kind}

-- an entry that shows no tile has no digest
hidden_digest : (base : Document) (es : List Entry) (k : Kind) (r : Reply) → shows_tile k r ≡ false → shown_digest base es k r ≡ []
hidden_digest base es (asked (machine.tile stack at) tables) (tile_of version) h = let bad : true ≡ false = h in cc
hidden_digest base es (asked (machine.peek stack at) tables) (tile_of version) h = let bad : true ≡ false = h in cc
hidden_digest base es k r h = refl

-- the line of a save that has started, which its end prints
abbrev owed_line : List Entry → (start : Option Entry) → List ℕ
owed_line es None = []
owed_line es (Some start) = line_text start.session start.index [] (end_reply es start.session start.index start.reply)

-- what is printed along these entries of a session is the line that is owed, and then theirs
abbrev ArePrinted : Document → (es : List Entry) → (start : Option Entry) → (own : List Entry) → Type 0
ArePrinted base es start own = lines_with (digests_in base es own) own ≡ owed_line es start ++ flat_map (entry_line base es) own

-- ---- an entry of the session

-- an end has the reply that its start shows
abbrev Answered : List Entry → (start : Option Entry) → Reply → Kind → Type 0
Answered es start reply (asked call tables) = Unit {0}
Answered es start reply starts = Unit {0}
Answered es None reply ends = Unit {0}
Answered es (Some start) reply ends = end_reply es start.session start.index start.reply ≡ reply

call_line : (shows : Bool) (digest : List ℕ) (digests : List (List ℕ)) (line : List ℕ → List ℕ) (own : List Entry)
    → (shows ≡ false → digest ≡ [])
    → cond shows
    (line (first_digest (cond shows (digest ∷ []) [] ++ digests))
    ++ lines_with (drop 1 (cond shows (digest ∷ []) [] ++ digests)) own)
    (line [] ++ lines_with (cond shows (digest ∷ []) [] ++ digests) own)
    ≡ line digest ++ lines_with digests own
call_line true digest digests line own none = refl
call_line false digest digests line own none = ap (λ (d : List ℕ). line d ++ lines_with digests own) (sym (none refl))

abbrev entry : (session index : ℕ) → Kind → Reply → Entry
entry session index kind reply = record { session = session; index = index; kind = kind; reply = reply }

own_printed : (base : Document) (es : List Entry) (session index : ℕ) (k : Kind) (r : Reply) (start : Option Entry)
    (own : List Entry)
    → MayFollow start (entry session index k r) k → Answered es start r k
    → ArePrinted base es (opened_by (entry session index k r) k) own
    → ArePrinted base es start (entry session index k r ∷ own)
own_printed base es session index (asked call tables) r None own may is rest =
    let line : List ℕ → List ℕ = λ d. line_text session index d r in
    call_line (asks_tile call && is_tile_reply r) (shown_digest base es (asked call tables) r) (digests_in base es own) line own
    (hidden_digest base es (asked call tables) r)
    ∙ ap (λ (ls : List ℕ). line (shown_digest base es (asked call tables) r) ++ ls) rest
own_printed base es session index (asked call tables) r (Some start) own may is rest = absurd may
own_printed base es session index starts r None own may is rest = rest
own_printed base es session index starts r (Some start) own may is rest = absurd may
own_printed base es session index ends r None own may is rest = absurd may
own_printed base es session index ends r (Some start) own may is rest =
    ap (λ (ls : List ℕ). line_text session index [] r ++ ls) rest
    ∙ ap (λ (line : List ℕ). line ++ flat_map (entry_line base es) own) same
  where
    same : line_text session index [] r ≡ owed_line es (Some start)
    same = rw (is, may.0, may.1) refl

-- ---- a save that is open

-- its start is the session's, and its end is still to come
abbrev IsOpen : (session : ℕ) → (earlier : List Entry) → (start : Option Entry) → Type 0
IsOpen session earlier None = Unit {0}
IsOpen session earlier (Some start) = (start.session ≡ session) × (has_end earlier start.session start.index ≡ false)

not_here : (s i k : Bool) → s ≡ false → ((s && i) && k) ≡ false
not_here true i k off = let bad : true ≡ false = off in cc
not_here false i k off = refl

-- an entry of another session leaves it open
stays_open : (session : ℕ) (earlier : List Entry) (e : Entry) (start : Option Entry) → (e.session == session) ≡ false
    → IsOpen session earlier start
    → IsOpen session (earlier ++ e ∷ []) start
stays_open session earlier e None other opened = tt
stays_open session earlier e (Some start) other opened =
    let other_one : (e.session == start.session) ≡ false = ap (λ (n : ℕ). e.session == n) opened.0 ∙ other in (
      opened.0,
      no_end_more earlier e start.session start.index opened.1
          (not_here (e.session == start.session) (e.index == start.index) (is_end_kind e.kind) other_one),
    )

opens : (base : Document) (s : State) (session : ℕ) (earlier : List Entry) (e : Entry) (k : Kind) → e.kind ≡ k → e.session ≡ session
    → AreBelow s.out earlier
    → MayBe base s earlier e k → IsOpen session (earlier ++ e ∷ []) (opened_by e k)
opens base s session earlier e (asked call tables) is mine below may = tt
opens base s session earlier e starts is mine below may =
    let here : is_end_at e.session e.index e ≡ false =
    ap (λ (kind : Kind). (e.session == e.session && e.index == e.index) && is_end_kind kind) is
    ∙ and-false (e.session == e.session && e.index == e.index) in
    let at : next_index earlier e.session ≤ e.index = omega (arith, may.0) in
    (mine, no_end_more earlier e e.session e.index (below.ended e.session e.index at) here)
opens base s session earlier e ends is mine below may = tt

answers : (es earlier : List Entry) (e : Entry) (later : List Entry) (session : ℕ) (start : Option Entry) (k : Kind) → e.kind ≡ k
    → earlier ++ e ∷ later ≡ es
    → IsOpen session earlier start → MayFollow start e k → Answered es start e.reply k
answers es earlier e later session start (asked call tables) is whole opened may = tt
answers es earlier e later session start starts is whole opened may = tt
answers es earlier e later session None ends is whole opened may = tt
answers es earlier e later session (Some start) ends is whole opened may =
    let here : is_end_at start.session start.index e ≡ true =
    rw (is, eq-eqb e.session start.session may.0, eq-eqb e.index start.index may.1) refl in
    ap (λ (all : List Entry). end_reply all start.session start.index start.reply) (sym whole)
    ∙ end_behind earlier (e ∷ later) start.session start.index start.reply opened.1
    ∙ cond-true (is_end_at start.session start.index e) e.reply (end_reply later start.session start.index start.reply) here

-- ---- along the history

one_more : (base : Document) (es earlier : List Entry) (e : Entry) (later : List Entry) (s : State) (session : ℕ)
    (start : Option Entry) (own : List Entry) (b : Bool)
    → (e.session == session) ≡ b → earlier ++ e ∷ later ≡ es → MayBe base s earlier e e.kind → AreBelow s.out earlier
    → IsOpen session earlier start
    → AreEndedFrom start (cond b (e ∷ own) own)
    → ((next : Option Entry) → IsOpen session (earlier ++ e ∷ []) next → AreEndedFrom next own → ArePrinted base es next own)
    → ArePrinted base es start (cond b (e ∷ own) own)
one_more base es earlier e later s session start own true is whole may below opened ended rest =
    own_printed base es e.session e.index e.kind e.reply start own ended.0
    (answers es earlier e later session start e.kind refl whole opened ended.0)
    (rest (opened_by e e.kind) (opens base s session earlier e e.kind refl (eqb-true e.session session is) below may) ended.1)
one_more base es earlier e later s session start own false is whole may below opened ended rest =
    rest start (stays_open session earlier e start is opened) ended

session_printed : (base : Document) (es : List Entry) (session : ℕ) (s : State) (start : Option Entry) (earlier later : List Entry)
    → earlier ++ later ≡ es
    → RunFrom base s earlier later → AreBelow s.out earlier → IsOpen session earlier start → AreEndedFrom start (mine later session)
    → ArePrinted base es start (mine later session)
session_printed base es session s None earlier [] whole run below opened ended = refl
session_printed base es session s (Some start) earlier [] whole run below opened ended = absurd ended
session_printed base es session s start earlier (e ∷ later) whole run below opened ended =
    one_more base es earlier e later s session start (mine later session) (e.session == session) refl whole run.0 below opened ended
    (λ next opened_next ended_next. session_printed base es session (after_entry base s e) next (earlier ++ e ∷ []) later
    (append_assoc earlier (e ∷ []) later ∙ whole)
    run.1 (below_kind base s earlier e e.kind refl below run.0) opened_next ended_next)

-- ---- all sessions

same_lines : (f g : ℕ → List ℕ) (first n : ℕ) → ((k : ℕ) → k < first + n → f k ≡ g k)
    → flat_map f (count_from first n) ≡ flat_map g (count_from first n)
same_lines f g first zero same = refl
same_lines f g first (suc n) same =
    ap (λ (line : List ℕ). line ++ flat_map f (count_from (suc first) n)) (same first (omega arith))
    ∙ ap (λ (ls : List ℕ). g first ++ ls) (same_lines f g (suc first) n (λ k below. same k (omega (arith, below))))

-- where each session's saves have ended, and its digests are those of what it was shown, its lines are the printed ones
pub lines_are_printed : (base : Document) (es : List Entry) (digests : List (List (List ℕ))) → IsLegal base es
    → ((session : ℕ) → session < 8 → AreEnded (mine es session))
    → ((session : ℕ) → session < 8 → unwrap_or (slice_get digests session) [] ≡ digests_in base es (mine es session))
    → lines_of_sessions digests es 8 ++ order_text es ≡ printed base es
lines_are_printed base es digests legal ended shown =
    let all : (f g : ℕ → List ℕ) → ((k : ℕ) → k < 8 → f k ≡ g k)
    → flat_map f (count_from 0 8) ++ order_text es ≡ flat_map g (count_from 0 8) ++ order_text es =
    λ f g same. ap (λ (ls : List ℕ). ls ++ order_text es) (same_lines f g 0 8 (λ k below. same k (omega (arith, below)))) in
    all (λ session. lines_with (unwrap_or (slice_get digests session) []) (mine es session))
    (λ session. flat_map (entry_line base es) (mine es session))
    (λ session below. ap (λ (ds : List (List ℕ)). lines_with ds (mine es session)) (shown session below)
    ∙ session_printed base es session (initial base) None [] es refl legal.run
    (record { ended = λ s index above. refl; going = tt }) tt (ended session below))

-- what was written is that text
pub text_is_printed : {T E : Type 0} (result : Result T E) (bytes : T → List ℕ) (base : Document) (es : List Entry)
    (digests : List (List (List ℕ)))
    → IfOk result (λ text. bytes text ≡ lines_of_sessions digests es 8 ++ order_text es)
    → IsLegal base es
    → ((session : ℕ) → session < 8 → AreEnded (mine es session))
    → ((session : ℕ) → session < 8 → unwrap_or (slice_get digests session) [] ≡ digests_in base es (mine es session))
    → IfOk result (λ text. bytes text ≡ printed base es)
text_is_printed (Ok text) bytes base es digests is legal ended shown = is ∙ lines_are_printed base es digests legal ended shown
text_is_printed (Err e) bytes base es digests is legal ended shown = tt
