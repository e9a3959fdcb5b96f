-- The lines of a script fit the filters of their sessions.
use Rattle.std.proofs.Common.{◌≡◌, ℕ, zero, suc, ◌+◌, ◌^◌, ◌≤◌, Bool, true, false, cond, ◌&&◌, nat_lt, nat_le, List}
use Rattle.std.proofs.Common.{[], ◌∷◌, ◌++◌, length, map, filter, refl, sym, ap, subst, arith, length-append, ◌∙◌}
use Rattle.std.specs.Prelude.{Option, Some, None, IfSome, Result, Ok, Err, IfOk, slice_get, unwrap_or}
use Rattle.std.specs.List.{AllByRecursion, list_all}
use Rattle.std.proofs.lemmas.Bool.{and_parts, leb-true}
use Rattle.std.proofs.lemmas.List.Folds.{list_all-append}
use Rattle.std.proofs.lemmas.List.Elements.{filter-append}
use Rattle.spec_document.specs.Rect.{count_from}
use Rattle.spec_edit.specs.Effect.{changed_at}
use Rattle.spec_history.specs.Machine as machine
use Rattle.spec_history.specs.declared.TheConstants.{MAX_EDITS}
use Rattle.spec_script.specs.Words.{lines_of, words_of}
use Rattle.spec_script.specs.Commands.{Command, Asked, an_edit, begins, ends, a_call, saves, forgets, command_of}
use Rattle.spec_script.specs.Script.{Line, call, save, forget, Open, Session, Parsed, Taken, is_there}
use Rattle.spec_script.specs.declared.TheConstants.{MAX_CALLS}
use Rattle.spec_script.specs.Script.{finds_filter, has_its_filter, has_filter, take_outside, take_inside, take_command}
use Rattle.spec_script.specs.Script.{is_skipped, take_by, take_asked, take_line, or_refused, take_lines, never_ended}
use Rattle.spec_script.specs.Script.{ended, closed, blank, line_of_byte, start, script, is_call}
use Rattle.spec_script.specs.Limits.{IsLine, AreLines}
use Rattle.spec_script.specs.Fits.{finds_filters, IsFit, dropped_by, AreFit, EachFit, count_calls, FitsFilters}
use Rattle.spec_script.proofs.Limits.{IsOwnCall, IsCommand, if-then}
use Rattle.spec_script.proofs.Calls.{keeps-command, taken-keep}

refused_or : (P : Parsed → Type 0) (number : ℕ) (o : Option Parsed) (rest : Parsed → Result Parsed ℕ) → IfSome o P
    → ((p : Parsed) → P p → IfOk (rest p) P)
    → IfOk (or_refused number o rest) P
refused_or P number None rest h f = tt
refused_or P number (Some p) rest h f = f p h

-- ---- the lines of a session

-- a line but for the limits of its call
abbrev IsHeld : (filters : ℕ) (dropped : List ℕ) → Line → Type 0
IsHeld filters dropped (call c) = finds_filters filters dropped c ≡ true
IsHeld filters dropped save = Unit {0}
IsHeld filters dropped (forget slot) = is_there filters dropped slot ≡ true

abbrev AreHeld : (filters : ℕ) (dropped : List ℕ) → List Line → Type 0
AreHeld filters dropped [] = Unit {0}
AreHeld filters dropped (line ∷ lines) = IsHeld filters dropped line × AreHeld filters (dropped_by dropped line) lines

abbrev all_dropped : (dropped : List ℕ) → List Line → List ℕ
all_dropped dropped [] = dropped
all_dropped dropped (line ∷ lines) = all_dropped (dropped_by dropped line) lines

held-more : (filters : ℕ) (dropped : List ℕ) (lines : List Line) (line : Line) → AreHeld filters dropped lines
    → IsHeld filters (all_dropped dropped lines) line
    → AreHeld filters dropped (lines ++ line ∷ [])
held-more filters dropped [] line are is = (is, tt)
held-more filters dropped (x ∷ lines) line are is = (are.0, held-more filters (dropped_by dropped x) lines line are.1 is)

dropped-more : (dropped : List ℕ) (lines : List Line) (line : Line)
    → all_dropped dropped (lines ++ line ∷ []) ≡ dropped_by (all_dropped dropped lines) line
dropped-more dropped [] line = refl
dropped-more dropped (x ∷ lines) line = dropped-more (dropped_by dropped x) lines line

-- the call that is begun and not yet a line
abbrev begun_by : Option Open → ℕ
begun_by None = 0
begun_by (Some o) = 1

-- the calls of a session so far
abbrev calls_so_far : Session → ℕ
calls_so_far s = length (filter is_call s.lines) + begun_by s.open_group

-- the edits of a group so far
abbrev GroupFinds : (filters : ℕ) (dropped : List ℕ) → Open → Type 0
GroupFinds filters dropped o = list_all (finds_filter filters dropped) o.edits ≡ true

record IsFor (given : ℕ) (s : Session) : Type 0 where
  filters_are : s.filters ≡ given
  lines_are : AreHeld s.filters [] s.lines
  dropped_are : all_dropped [] s.lines ≡ s.dropped
  group_is : IfSome s.open_group (GroupFinds s.filters s.dropped)

-- a step of a session
record IsStep (given before : ℕ) (t : Taken) : Type 0 where
  after : IsFor given t.session
  few : calls_so_far t.session ≤ before + t.begun

if-taken : (given before : ℕ) (b : Bool) (t : Taken) → (b ≡ true → IsStep given before t)
    → IfSome (cond b (Some t) None) (IsStep given before)
if-taken given before true t h = h refl
if-taken given before false t h = tt

calls-more : (lines : List Line) (line : Line)
    → length (filter is_call (lines ++ line ∷ [])) ≡ length (filter is_call lines) + length (filter is_call (line ∷ []))
calls-more lines line =
    ap length (filter-append is_call lines (line ∷ [])) ∙ length-append (filter is_call lines) (filter is_call (line ∷ []))

-- a call or a save outside of a group
with-line : (given : ℕ) (s : Session) (line : Line) → IsFor given s → s.open_group ≡ None → IsHeld s.filters s.dropped line
    → dropped_by s.dropped line ≡ s.dropped
    → length (filter is_call (line ∷ [])) ≡ 1
    → IsStep given (calls_so_far s) (record { session = record s { lines = s.lines ++ line ∷ [] }; begun = 1 })
with-line given s line is outside held same one =
    let more = calls-more s.lines line in
    record {
      after = record {
        filters_are = is.filters_are;
        lines_are =
            held-more s.filters [] s.lines line is.lines_are (subst (λ d. IsHeld s.filters d line) (sym is.dropped_are) held);
        dropped_are = dropped-more [] s.lines line ∙ ap (λ d. dropped_by d line) is.dropped_are ∙ same;
        group_is = is.group_is;
      };
      few = omega (arith, more, one);
    }

-- a call with a line of its own names no filter
own-line : (filters : ℕ) (dropped : List ℕ) (c : machine.Call) → IsOwnCall c → IsHeld filters dropped (call c)
own-line filters dropped (machine.edit guard es) own = absurd own
own-line filters dropped (machine.undo named) own = refl
own-line filters dropped machine.redo own = refl
own-line filters dropped (machine.tile stack at) own = refl
own-line filters dropped (machine.peek stack at) own = refl
own-line filters dropped machine.top own = refl

taken-outside : (given number : ℕ) (s : Session) (c : Command) → IsFor given s → s.open_group ≡ None → IsCommand c
    → IfSome (take_outside number s c) (IsStep given (calls_so_far s))
taken-outside given number s (an_edit e) is outside command =
    if-taken given (calls_so_far s) (has_its_filter s e) _
    (λ there. with-line given s (call (machine.edit None (e ∷ []))) is outside (rw there refl) refl refl)
taken-outside given number s (begins guard) is outside command =
    let none : begun_by s.open_group ≡ 0 = ap begun_by outside in
    record {
      after = record { filters_are = is.filters_are; lines_are = is.lines_are; dropped_are = is.dropped_are; group_is = refl };
      few = omega (arith, none);
    }
taken-outside given number s ends is outside command = tt
taken-outside given number s (a_call c) is outside command =
    with-line given s (call c) is outside (own-line s.filters s.dropped c command) refl refl
taken-outside given number s saves is outside command = with-line given s save is outside tt refl refl
taken-outside given number s (forgets slot) is outside command =
    let more = calls-more s.lines (forget slot) in
    if-taken given (calls_so_far s) (has_filter s slot) _ (λ there. record {
      after = record {
        filters_are = is.filters_are;
        lines_are = held-more s.filters [] s.lines (forget slot) is.lines_are
            (subst (λ d. IsHeld s.filters d (forget slot)) (sym is.dropped_are) there);
        dropped_are = dropped-more [] s.lines (forget slot) ∙ ap (λ d. d ++ slot ∷ []) is.dropped_are;
        group_is = subst (λ o. IfSome o (GroupFinds s.filters (s.dropped ++ slot ∷ []))) (sym outside) tt;
      };
      few = omega (arith, more);
    })

-- a command in a group
taken-inside : (given : ℕ) (o : Open) (s : Session) (c : Command) → IsFor given s → s.open_group ≡ Some o
    → IfSome (take_inside o s c) (IsStep given (calls_so_far s))
taken-inside given o s (an_edit e) is inside =
    let some : begun_by s.open_group ≡ 1 = ap begun_by inside in
    let group : GroupFinds s.filters s.dropped o = subst (λ g. IfSome g (GroupFinds s.filters s.dropped)) inside is.group_is in
    if-taken given (calls_so_far s) (has_its_filter s e && nat_lt (length o.edits) MAX_EDITS) _ (λ both.
    let there = (and_parts (has_its_filter s e) (nat_lt (length o.edits) MAX_EDITS) both).0 in
    record {
      after = record {
        filters_are = is.filters_are;
        lines_are = is.lines_are;
        dropped_are = is.dropped_are;
        group_is = list_all-append (finds_filter s.filters s.dropped) o.edits (e ∷ []) ∙ rw (group, there) refl;
      };
      few = omega (arith, some);
    })
taken-inside given o s ends is inside =
    let some : begun_by s.open_group ≡ 1 = ap begun_by inside in
    let group : GroupFinds s.filters s.dropped o = subst (λ g. IfSome g (GroupFinds s.filters s.dropped)) inside is.group_is in
    let ended = call (machine.edit o.guard o.edits) in
    let more = calls-more s.lines ended in
    if-taken given (calls_so_far s) (nat_lt 0 (length o.edits)) _ (λ any. record {
      after = record {
        filters_are = is.filters_are;
        lines_are = held-more s.filters [] s.lines ended is.lines_are
            (subst (λ d. finds_filters s.filters d (machine.edit o.guard o.edits) ≡ true) (sym is.dropped_are) group);
        dropped_are = dropped-more [] s.lines ended ∙ is.dropped_are;
        group_is = tt;
      };
      few = omega (arith, more, some);
    })
taken-inside given o s (begins guard) is inside = tt
taken-inside given o s (a_call c) is inside = tt
taken-inside given o s saves is inside = tt
taken-inside given o s (forgets slot) is inside = tt

either : (given number : ℕ) (s : Session) (o : Option Open) (c : Command) → s.open_group ≡ o → IsFor given s → IsCommand c
    → IfSome (take_command number s o c) (IsStep given (calls_so_far s))
either given number s None c is_open is command = taken-outside given number s c is is_open command
either given number s (Some o) c is_open is command = taken-inside given o s c is is_open

-- ---- all sessions

abbrev EachFor : (chests : List ℕ) (session : ℕ) → List Session → Type 0
EachFor chests session [] = Unit {0}
EachFor chests session (s ∷ ss) = IsFor (unwrap_or (slice_get chests session) 0) s × EachFor chests (suc session) ss

abbrev all_calls : List Session → ℕ
all_calls [] = 0
all_calls (s ∷ ss) = calls_so_far s + all_calls ss

-- a session at its place, which may be exchanged
record IsPlace (chests : List ℕ) (session : ℕ) (ss : List Session) (place : ℕ) (s : Session) : Type 0 where
  given : ℕ
  is : IsFor given s
  put : (t : Session) → IsFor given t → EachFor chests session (changed_at place (λ _. t) ss)
  count : (t : Session) → all_calls (changed_at place (λ _. t) ss) + calls_so_far s ≡ all_calls ss + calls_so_far t

if-later : {P Q : Session → Type 0} (o : Option Session) → ((s : Session) → P s → Q s) → IfSome o P → IfSome o Q
if-later None f h = tt
if-later (Some s) f h = f s h

place-of : (chests : List ℕ) (session : ℕ) (ss : List Session) (place : ℕ) → EachFor chests session ss
    → IfSome (slice_get ss place) (IsPlace chests session ss place)
place-of chests session [] place each = tt
place-of chests session (s ∷ ss) zero each = record {
  given = unwrap_or (slice_get chests session) 0;
  is = each.0;
  put = λ t is. (is, each.1);
  count = λ t. omega arith;
}
place-of chests session (s ∷ ss) (suc place) each =
    if-later (slice_get ss place) (λ x at.
    record {
      given = at.given;
      is = at.is;
      put = λ t is. (each.0, at.put t is);
      count = λ t. let rest = at.count t in omega (arith, rest);
    }) (place-of chests (suc session) ss place each.1)

record IsSoFar (chests : List ℕ) (p : Parsed) : Type 0 where
  each : EachFor chests 0 p.sessions
  few : all_calls p.sessions ≤ p.calls
  most : p.calls ≤ MAX_CALLS

put : (chests : List ℕ) (p : Parsed) (place : ℕ) (s : Session) (t : Taken) → IsSoFar chests p
    → (at : IsPlace chests 0 p.sessions place s) → IsStep at.given (calls_so_far s) t
    → (b : Bool) → nat_le (p.calls + t.begun) MAX_CALLS ≡ b
    → IfSome (cond b (Some (record { sessions = changed_at place (λ _. t.session) p.sessions; calls = p.calls + t.begun })) None)
    (IsSoFar chests)
put chests p place s t so at step true e =
    let count = at.count t.session in
    let more = step.few in
    let few = so.few in
    record { each = at.put t.session step.after; few = omega arith; most = leb-true (p.calls + t.begun) MAX_CALLS e }
put chests p place s t so at step false e = tt

by-held : (chests : List ℕ) (number : ℕ) (asked : Asked) (p : Parsed) → IsSoFar chests p → IsCommand asked.command
    → IfSome (take_by number asked p) (IsSoFar chests)
by-held chests number asked p so command =
    if-then (IsPlace chests 0 p.sessions asked.session) (IsSoFar chests) (slice_get p.sessions asked.session) _
    (place-of chests 0 p.sessions asked.session so.each) (λ s at.
    if-then (IsStep at.given (calls_so_far s)) (IsSoFar chests) (take_command number s s.open_group asked.command) _
    (either at.given number s s.open_group asked.command refl at.is command) (λ t step.
    put chests p asked.session s t so at step (nat_le (p.calls + t.begun) MAX_CALLS) refl))

-- ---- the lines of the text

asked-held : (chests : List ℕ) (number : ℕ) (words : List (List ℕ)) (p : Parsed) → IsSoFar chests p
    → IfSome (take_asked number words p) (IsSoFar chests)
asked-held chests number words p so =
    let Q : Asked → Type 0 = λ asked. IsCommand asked.command in
    if-then Q (IsSoFar chests) (command_of words) _ (keeps-command words)
    (λ asked command. by-held chests number asked p so command)

line-held : (chests : List ℕ) (number : ℕ) (line : List ℕ) (p : Parsed) → IsSoFar chests p
    → IfSome (take_line number line p) (IsSoFar chests)
line-held chests number line p so = go (is_skipped line)
  where
    go : (b : Bool) → IfSome (cond b (Some p) (take_asked number (words_of line) p)) (IsSoFar chests)
    go true = so
    go false = asked-held chests number (words_of line) p so

lines-taken : (chests : List ℕ) (number : ℕ) (lines : List (List ℕ)) (p : Parsed) → IsSoFar chests p
    → IfOk (take_lines number lines p) (IsSoFar chests)
lines-taken chests number [] p so = so
lines-taken chests number (line ∷ lines) p so =
    refused_or (IsSoFar chests) number (take_line number line p) (λ q. take_lines (suc number) lines q)
    (line-held chests number line p so)
    (λ q is. lines-taken chests (suc number) lines q is)

blank-for : (chests : List ℕ) (session n : ℕ)
    → EachFor chests session (map (λ s. blank (unwrap_or (slice_get chests s) 0)) (count_from session n))
blank-for chests session zero = tt
blank-for chests session (suc n) =
    (record { filters_are = refl; lines_are = tt; dropped_are = refl; group_is = tt }, blank-for chests (suc session) n)

blank-calls : (chests : List ℕ) (session n : ℕ)
    → all_calls (map (λ s. blank (unwrap_or (slice_get chests s) 0)) (count_from session n)) ≡ 0
blank-calls chests session zero = refl
blank-calls chests session (suc n) = let rest = blank-calls chests (suc session) n in omega (arith, rest)

start-held : (chests : List ℕ) → IsSoFar chests (start chests)
start-held chests =
    let none = blank-calls chests 0 8 in record { each = blank-for chests 0 8; few = omega (arith, none); most = omega arith }

-- ---- the lists

abbrev EachHeld : (chests : List ℕ) (session : ℕ) → List (List Line) → Type 0
EachHeld chests session [] = Unit {0}
EachHeld chests session (lines ∷ lists) =
    AreHeld (unwrap_or (slice_get chests session) 0) [] lines × EachHeld chests (suc session) lists

record AreListsHeld (chests : List ℕ) (lists : List (List Line)) : Type 0 where
  each : EachHeld chests 0 lists
  few : count_calls lists ≤ MAX_CALLS

each-lists : (chests : List ℕ) (session : ℕ) (ss : List Session) → EachFor chests session ss
    → EachHeld chests session (map (λ s. s.lines) ss)
each-lists chests session [] each = tt
each-lists chests session (s ∷ ss) each =
    let is = each.0 in
    (subst (λ n. AreHeld n [] s.lines) is.filters_are is.lines_are, each-lists chests (suc session) ss each.1)

calls-of-lists : (ss : List Session) → count_calls (map (λ s. s.lines) ss) ≤ all_calls ss
calls-of-lists [] = omega arith
calls-of-lists (s ∷ ss) = let rest = calls-of-lists ss in omega arith

ended-held : (chests : List ℕ) (o : Option ℕ) (p : Parsed) → IsSoFar chests p → IfOk (ended o p.sessions) (AreListsHeld chests)
ended-held chests None p so =
    let calls = calls-of-lists p.sessions in
    let few = so.few in
    let most = so.most in
    record { each = each-lists chests 0 p.sessions so.each; few = omega arith }
ended-held chests (Some line) p so = tt

closed-held : (chests : List ℕ) (r : Result Parsed ℕ) → IfOk r (IsSoFar chests) → IfOk (closed r) (AreListsHeld chests)
closed-held chests (Err line) h = tt
closed-held chests (Ok p) so = ended-held chests (never_ended p.sessions) p so

taken-held : (lines : List (List ℕ)) (chests : List ℕ) → IfOk (closed (take_lines 1 lines (start chests))) (AreListsHeld chests)
taken-held lines chests =
    closed-held chests (take_lines 1 lines (start chests)) (lines-taken chests 1 lines (start chests) (start-held chests))

-- ---- with the limits

line-fit : (filters : ℕ) (dropped : List ℕ) (line : Line) → IsLine line → IsHeld filters dropped line → IsFit filters dropped line
line-fit filters dropped (call c) is held = (is, held)
line-fit filters dropped save is held = tt
line-fit filters dropped (forget slot) is held = held

lines-fit : (filters : ℕ) (dropped : List ℕ) (lines : List Line) → AllByRecursion IsLine lines → AreHeld filters dropped lines
    → AreFit filters dropped lines
lines-fit filters dropped [] are held = tt
lines-fit filters dropped (line ∷ lines) are held =
    (line-fit filters dropped line are.0 held.0, lines-fit filters (dropped_by dropped line) lines are.1 held.1)

each-fit : (chests : List ℕ) (session : ℕ) (lists : List (List Line)) → AreLines lists → EachHeld chests session lists
    → EachFit chests session lists
each-fit chests session [] are held = tt
each-fit chests session (lines ∷ lists) are held =
    (lines-fit (unwrap_or (slice_get chests session) 0) [] lines are.0 held.0, each-fit chests (suc session) lists are.1 held.1)

both : (chests : List ℕ) (r : Result (List (List Line)) ℕ) → IfOk r AreLines → IfOk r (AreListsHeld chests)
    → IfOk r (FitsFilters chests)
both chests (Err line) are held = tt
both chests (Ok lists) are held = record { each = each-fit chests 0 lists are held.each; few = held.few }

-- the lines of a text, one after another
pub taken-fit : (lines : List (List ℕ)) (chests : List ℕ) → IfOk (closed (take_lines 1 lines (start chests))) (FitsFilters chests)
taken-fit lines chests = both chests (closed (take_lines 1 lines (start chests))) (taken-keep lines chests) (taken-held lines chests)

pub script-fits : (text chests : List ℕ) → IfOk (script text chests) (FitsFilters chests)
script-fits text chests = go (nat_le (length text) (2 ^ 24))
  where
    go : (b : Bool) → IfOk (cond b (closed (take_lines 1 (lines_of text) (start chests))) (Err (line_of_byte text (2 ^ 24))))
        (FitsFilters chests)
    go true = taken-fit (lines_of text) chests
    go false = tt
