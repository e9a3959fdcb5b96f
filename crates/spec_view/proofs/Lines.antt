-- The lines of a script that is viewed.
use Rattle.std.proofs.Common.{◌≡◌, ℕ, zero, suc, Bool, true, false, cond, ◌&&◌, ◌==◌, List, [], ◌∷◌, ◌++◌, map, refl, sym, ◌∙◌, ap, subst}
use Rattle.std.specs.Prelude.{◌||◌, ◌^◌, ◌+◌, Option, Some, None, IfSome, Result, Ok, Err, IfOk, slice_get, unwrap_or, nat_le, nat_lt, length}
use Rattle.std.specs.List.{AllByRecursion}
use Rattle.std.proofs.lemmas.Bool.{and_parts}
use Rattle.spec_document.specs.Rect.{count_from}
use Rattle.spec_edit.specs.Effect.{changed_at}
use Rattle.spec_history.specs.Machine as machine
use Rattle.spec_history.specs.declared.TheConstants.{MAX_EDITS}
use Rattle.spec_script.specs.Words.{◌>>=◌, lines_of, words_of}
use Rattle.spec_script.specs.Commands.{Command, Asked, an_edit, begins, ends, a_call, saves, forgets, command_of}
use Rattle.spec_script.specs.Script.{Line, call, save, forget, Open, Session, Parsed, Taken, has_filter, has_its_filter}
use Rattle.spec_script.specs.declared.TheConstants.{MAX_CALLS}
use Rattle.spec_script.specs.Script.{take_outside, take_inside, take_command, put_session, take_by, take_asked, take_line}
use Rattle.spec_script.specs.Script.{take_lines, is_skipped}
use Rattle.spec_script.specs.Script.{or_refused, never_ended, ended, closed, blank, line_of_byte, start, list_at}
use Rattle.spec_script.specs.Fits.{FitsFilters}
use Rattle.spec_script.proofs.Limits.{if-then}
use Rattle.spec_script.proofs.Fits.{taken-fit}
use Rattle.spec_view.specs.Script.{is_viewed, is_viewed_by, is_viewed_call, may_be_viewed, no_line, viewed_line, view_lists, IsViewedLine}

abbrev pub AreViewedLines : List Line → Type 0
AreViewedLines lines = AllByRecursion IsViewedLine lines

-- ---- what a line is taken as

pub skipped_line : (line : List ℕ) → is_skipped line ≡ true → viewed_line line ≡ line
skipped_line line skipped = ap (λ b. cond (b || is_viewed_by (command_of (words_of line))) line no_line) skipped

-- one that is not skipped is taken as it is where what it asks for may be viewed, and else refused
pub asking_line : (line : List ℕ) (o : Option Asked) → is_skipped line ≡ false → command_of (words_of line) ≡ o
    → viewed_line line ≡ cond (is_viewed_by o) line no_line
asking_line line o whole asks = λ i. cond (whole i || is_viewed_by (asks i)) line no_line

pub refused_line : (number : ℕ) (p : Parsed) → take_line number no_line p ≡ None
refused_line number p = refl

-- ---- what a line adds

behind : (lines : List Line) (line : Line) → AreViewedLines lines → IsViewedLine line → AreViewedLines (lines ++ line ∷ [])
behind [] line all is = (is, tt)
behind (x ∷ lines) line all is = (all.0, behind lines line all.1 is)

if-taken : (b : Bool) (t : Taken) → AreViewedLines t.session.lines → IfSome (cond b (Some t) None) (λ k. AreViewedLines k.session.lines)
if-taken true t h = h
if-taken false t h = tt

outside : (number : ℕ) (s : Session) (c : Command) → AreViewedLines s.lines → is_viewed c ≡ true
    → IfSome (take_outside number s c) (λ t. AreViewedLines t.session.lines)
outside number s (an_edit e) all is = if-taken (has_its_filter s e) _ (behind s.lines _ all refl)
outside number s (begins guard) all is = all
outside number s ends all is = tt
outside number s (a_call c) all is = behind s.lines (call c) all is
outside number s saves all is = cc
outside number s (forgets slot) all is = if-taken (has_filter s slot) _ (behind s.lines (forget slot) all tt)

inside : (o : Open) (s : Session) (c : Command) → AreViewedLines s.lines → IfSome (take_inside o s c) (λ t. AreViewedLines t.session.lines)
inside o s (an_edit e) all = if-taken (has_its_filter s e && nat_lt (length o.edits) MAX_EDITS) _ all
inside o s ends all = if-taken (nat_lt 0 (length o.edits)) _ (behind s.lines _ all refl)
inside o s (begins guard) all = tt
inside o s (a_call c) all = tt
inside o s saves all = tt
inside o s (forgets slot) all = tt

either : (number : ℕ) (s : Session) (o : Option Open) (c : Command) → AreViewedLines s.lines → is_viewed c ≡ true
    → IfSome (take_command number s o c) (λ t. AreViewedLines t.session.lines)
either number s None c all is = outside number s c all is
either number s (Some o) c all is = inside o s c all

-- ---- what all lines come to

abbrev AreSo : List Session → Type 0
AreSo ss = AllByRecursion (λ s. AreViewedLines s.lines) ss

abbrev AreSoIn : Parsed → Type 0
AreSoIn p = AreSo p.sessions

changed : (place : ℕ) (s : Session) (ss : List Session) → AreViewedLines s.lines → AreSo ss → AreSo (changed_at place (λ _. s) ss)
changed place s [] is all = tt
changed zero s (x ∷ xs) is all = (is, all.1)
changed (suc place) s (x ∷ xs) is all = (all.0, changed place s xs is all.1)

if-there : (ss : List Session) (i : ℕ) → AreSo ss → IfSome (slice_get ss i) (λ s. AreViewedLines s.lines)
if-there [] i all = tt
if-there (s ∷ ss) zero all = all.0
if-there (s ∷ ss) (suc i) all = if-there ss i all.1

put : (p : Parsed) (session : ℕ) (t : Taken) → AreSo p.sessions → AreViewedLines t.session.lines
    → IfSome (put_session p session t) AreSoIn
put p session t all is = go (nat_le (p.calls + t.begun) MAX_CALLS)
  where
    go : (b : Bool) → IfSome (cond b
        (Some (record { sessions = changed_at session (λ _. t.session) p.sessions; calls = p.calls + t.begun })) None)
        AreSoIn
    go true = changed session t.session p.sessions is all
    go false = tt

by-keeps : (number : ℕ) (asked : Asked) (p : Parsed) → AreSo p.sessions → is_viewed asked.command ≡ true
    → IfSome (take_by number asked p) AreSoIn
by-keeps number asked p all is =
    if-then (λ s. AreViewedLines s.lines) AreSoIn (slice_get p.sessions asked.session) _
    (if-there p.sessions asked.session all) (λ s own.
    if-then (λ t. AreViewedLines t.session.lines) AreSoIn (take_command number s s.open_group asked.command) _
    (either number s s.open_group asked.command own is) (λ t session.
    put p asked.session t all session))

-- a line that is not skipped, by what it asks for
taken : (number : ℕ) (line : List ℕ) (p : Parsed) → is_skipped line ≡ false → (o : Option Asked) → command_of (words_of line) ≡ o
    → AreSo p.sessions → IfSome (take_line number (viewed_line line) p) AreSoIn
taken number line p whole None asks all =
    subst (λ l. IfSome (take_line number l p) AreSoIn) (sym (asking_line line None whole asks)) tt
taken number line p whole (Some asked) asks all = go (asked.session == 0 && is_viewed asked.command) refl
  where
    IsSo : List ℕ → Type 0
    IsSo l = IfSome (take_line number l p) AreSoIn

    as_it_is : is_viewed asked.command ≡ true → IsSo line
    as_it_is is =
        subst (λ o. IfSome o AreSoIn)
        (λ i. cond (sym whole i) (Some p) (sym asks i >>= (λ a. take_by number a p))) (by-keeps number asked p all is)

    go : (b : Bool) → (asked.session == 0 && is_viewed asked.command) ≡ b → IsSo (viewed_line line)
    go true is =
        subst IsSo (sym (asking_line line (Some asked) whole asks ∙ ap (λ b. cond b line no_line) is))
        (as_it_is (and_parts (asked.session == 0) (is_viewed asked.command) is).1)
    go false is = subst IsSo (sym (asking_line line (Some asked) whole asks ∙ ap (λ b. cond b line no_line) is)) tt

line-keeps : (number : ℕ) (line : List ℕ) (p : Parsed) → AreSo p.sessions
    → IfSome (take_line number (viewed_line line) p) AreSoIn
line-keeps number line p all = go (is_skipped line) refl
  where
    go : (b : Bool) → is_skipped line ≡ b → IfSome (take_line number (viewed_line line) p) AreSoIn
    go true skipped =
        subst (λ l. IfSome (take_line number l p) AreSoIn) (sym (skipped_line line skipped))
        (subst (λ b. IfSome (cond b (Some p) (take_asked number (words_of line) p)) AreSoIn) (sym skipped) all)
    go false whole = taken number line p whole (command_of (words_of line)) refl all

or-refused : (number : ℕ) (o : Option Parsed) (rest : Parsed → Result Parsed ℕ) → IfSome o AreSoIn
    → ((q : Parsed) → AreSo q.sessions → IfOk (rest q) AreSoIn)
    → IfOk (or_refused number o rest) AreSoIn
or-refused number None rest h f = tt
or-refused number (Some p) rest h f = f p h

lines-keep : (number : ℕ) (lines : List (List ℕ)) (p : Parsed) → AreSo p.sessions
    → IfOk (take_lines number (map viewed_line lines) p) AreSoIn
lines-keep number [] p all = all
lines-keep number (line ∷ lines) p all =
    or-refused number (take_line number (viewed_line line) p) (λ q. take_lines (suc number) (map viewed_line lines) q)
    (line-keeps number line p all) (λ q is. lines-keep (suc number) lines q is)

blank-all : (chests numbers : List ℕ) → AreSo (map (λ s. blank (unwrap_or (slice_get chests s) 0)) numbers)
blank-all chests [] = tt
blank-all chests (n ∷ ns) = (tt, blank-all chests ns)

each-list : (ss : List Session) → AreSo ss → AllByRecursion AreViewedLines (map (λ s. s.lines) ss)
each-list [] all = tt
each-list (s ∷ ss) all = (all.0, each-list ss all.1)

ended-keeps : (o : Option ℕ) (ss : List Session) → AreSo ss → IfOk (ended o ss) (AllByRecursion AreViewedLines)
ended-keeps None ss all = each-list ss all
ended-keeps (Some line) ss all = tt

closed-keeps : (r : Result Parsed ℕ) → IfOk r AreSoIn → IfOk (closed r) (AllByRecursion AreViewedLines)
closed-keeps (Err line) h = tt
closed-keeps (Ok p) h = ended-keeps (never_ended p.sessions) p.sessions h

first_list : (lists : List (List Line)) → AllByRecursion AreViewedLines lists → AreViewedLines (list_at lists 0)
first_list [] all = tt
first_list (lines ∷ lists) all = all.0

-- ---- the lists that are read

-- they fit the filters, and the first session has neither saves nor peeks
pub record AreViewed (filters : ℕ) (lists : List (List Line)) : Type 0 where
  pub fits : FitsFilters (filters ∷ []) lists
  pub viewed : AreViewedLines (list_at lists 0)

both : (filters : ℕ) (r : Result (List (List Line)) ℕ) → IfOk r (FitsFilters (filters ∷ [])) → IfOk r (AllByRecursion AreViewedLines)
    → IfOk r (AreViewed filters)
both filters (Err line) fits all = tt
both filters (Ok lists) fits all = record { fits = fits; viewed = first_list lists all }

pub lists_viewed : (text : List ℕ) (filters : ℕ) → IfOk (view_lists text filters) (AreViewed filters)
lists_viewed text filters = go (nat_le (length text) (2 ^ 24))
  where
    lines : List (List ℕ)
    lines = map viewed_line (lines_of text)

    chests : List ℕ
    chests = filters ∷ []

    parsed : IfOk (closed (take_lines 1 lines (start chests))) (AreViewed filters)
    parsed =
        both filters (closed (take_lines 1 lines (start chests))) (taken-fit lines chests)
        (closed-keeps (take_lines 1 lines (start chests))
        (lines-keep 1 (lines_of text) (start chests) (blank-all chests (count_from 0 8))))

    go : (b : Bool) → IfOk (cond b (closed (take_lines 1 lines (start chests))) (Err (line_of_byte text (2 ^ 24)))) (AreViewed filters)
    go true = parsed
    go false = tt
