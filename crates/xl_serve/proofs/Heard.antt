-- What a line that is heard asks for finds its filters and is within its type.
use Rattle.std.proofs.Common.{◌≡◌, ℕ, zero, suc, ◌<◌, ◌+◌, Bool, true, false, cond, ◌&&◌, nat_lt, nat_le, List, [], ◌∷◌, ◌++◌, length, map, refl, sym}
use Rattle.std.proofs.Common.{ap, ◌∙◌, subst, arith, get_or, eq-eqb, ne_eqb, length-append}
use Rattle.std.specs.Prelude.{◌==◌, ◌≢◌, Option, Some, None, IfSome, slice_get, unwrap_or}
use Rattle.std.specs.List.{AllByRecursion}
use Rattle.std.proofs.lemmas.Bool.{and_parts, ltb-true, eqb-true}
use Rattle.std.proofs.lemmas.List.Folds.{list_all-append}
use Rattle.std.proofs.lemmas.Option.{slice_get_within, get_or_from_slice_get}
use Rattle.spec_document.specs.Rect.{count_from}
use Rattle.spec_edit.specs.Edit.{IsEdit}
use Rattle.spec_edit.specs.Effect.{changed_at}
use Rattle.spec_history.specs.Machine as machine
use Rattle.spec_history.specs.declared.TheConstants.{MAX_EDITS}
use Rattle.spec_script.specs.Words.{◌>>=◌, words_of, plain_number, number_below, if_holds}
use Rattle.spec_script.specs.Commands.{Command, Asked, an_edit, begins, ends, a_call, saves, forgets, rule_of, command_of}
use Rattle.spec_script.specs.Script.{Line, call, save, forget, Open, Session, Parsed, Taken, blank, finds_filter}
use Rattle.spec_script.specs.Script.{has_its_filter, has_filter, take_outside, take_inside, take_command, put_session, take_by}
use Rattle.spec_script.specs.Script.{is_skipped}
use Rattle.spec_script.specs.Fits.{IsFit, dropped_by}
use Rattle.spec_script.specs.declared.TheConstants.{MAX_CALLS}
use Rattle.spec_script.proofs.Limits.{IsOwnCall, IsCommand, if-then, if-any, if-test}
use Rattle.spec_script.proofs.Calls.{keeps-command}
use Rattle.spec_serve.specs.Hearing.{Asks, plays, requests, nothing, bad, Hearing, Heard, start_hearing, asks_of, whole_line}
use Rattle.spec_serve.specs.Hearing.{emptied, named_by, bad_at, refused, drops, dropped, taken, scripted, hear_script}
use Rattle.xl_serve.specs.Standing.{session_at, IsOpenGroup, IsBetween, IsHearing}

-- ---- a list that is changed at a place

changed_other : {A : Type 0} (place at : ℕ) (f : A → A) (xs : List A) (d : A) → place ≢ at
    → get_or (changed_at place f xs) at d ≡ get_or xs at d
changed_other place at f [] d apart = refl
changed_other zero zero f (x ∷ xs) d apart = absurd (apart refl)
changed_other zero (suc at) f (x ∷ xs) d apart = refl
changed_other (suc place) zero f (x ∷ xs) d apart = refl
changed_other (suc place) (suc at) f (x ∷ xs) d apart = changed_other place at f xs d (λ q. apart (ap suc q))

changed_here : {A : Type 0} (place : ℕ) (f : A → A) (xs : List A) (d : A) → place < length xs
    → get_or (changed_at place f xs) place d ≡ f (get_or xs place d)
changed_here place f [] d within = absurd (omega (arith, within))
changed_here zero f (x ∷ xs) d within = refl
changed_here (suc place) f (x ∷ xs) d within = changed_here place f xs d (omega (arith, within))

changed_length : {A : Type 0} (place : ℕ) (f : A → A) (xs : List A) → length (changed_at place f xs) ≡ length xs
changed_length place f [] = refl
changed_length zero f (x ∷ xs) = refl
changed_length (suc place) f (x ∷ xs) = ap suc (changed_length place f xs)

-- ---- a step of a session

-- what it has added, and what is dropped then
abbrev LinesFit : Session → List Line → (dropped : List ℕ) → Type 0
LinesFit s [] dropped = dropped ≡ s.dropped
LinesFit s (line ∷ more) dropped = IsFit s.filters s.dropped line × (dropped ≡ dropped_by s.dropped line)

record IsStep (s t : Session) : Type 0 where
  filters : t.filters ≡ s.filters
  lines : LinesFit s t.lines t.dropped
  group : IfSome t.open_group (IsOpenGroup t.filters t.dropped)

if-taken : (P : Taken → Type 0) (b : Bool) (t : Taken) → (b ≡ true → P t) → IfSome (cond b (Some t) None) P
if-taken P true t h = h refl
if-taken P false t h = tt

-- a line that drops nothing
with_line : (s : Session) (line : Line) → IsBetween s → s.open_group ≡ None → IsFit s.filters s.dropped line
    → dropped_by s.dropped line ≡ s.dropped → IsStep s (record s { lines = s.lines ++ line ∷ [] })
with_line s line is outside fit same = record {
  filters = refl;
  lines = subst (λ (ls : List Line). LinesFit s (ls ++ line ∷ []) s.dropped) (sym is.none) (fit, sym same);
  group = subst (λ o. IfSome o (IsOpenGroup s.filters s.dropped)) (sym outside) tt;
}

own_fit : (filters : ℕ) (dropped : List ℕ) (c : machine.Call) → IsOwnCall c → IsFit filters dropped (call c)
own_fit filters dropped (machine.edit guard es) own = absurd own
own_fit filters dropped (machine.undo named) own = (tt, refl)
own_fit filters dropped machine.redo own = (tt, refl)
own_fit filters dropped (machine.tile stack at) own = (tt, refl)
own_fit filters dropped (machine.peek stack at) own = (tt, refl)
own_fit filters dropped machine.top own = (tt, refl)

outside_step : (number : ℕ) (s : Session) (c : Command) → IsBetween s → s.open_group ≡ None → IsCommand c
    → IfSome (take_outside number s c) (λ t. IsStep s t.session)
outside_step number s (an_edit e) is outside command =
    if-taken (λ t. IsStep s t.session) (has_its_filter s e) _
    (λ there. with_line s (call (machine.edit None (e ∷ []))) is outside
    (record { some = omega arith; few = omega arith; each = (command, tt) }, rw there refl) refl)
outside_step number s (begins guard) is outside command =
    record { filters = refl; lines = subst (λ (ls : List Line). LinesFit s ls s.dropped) (sym is.none) refl; group = record { each = tt; few = omega arith; found = refl } }
outside_step number s ends is outside command = tt
outside_step number s (a_call c) is outside command = with_line s (call c) is outside (own_fit s.filters s.dropped c command) refl
outside_step number s saves is outside command = with_line s save is outside tt refl
outside_step number s (forgets slot) is outside command =
    if-taken (λ t. IsStep s t.session) (has_filter s slot) _ (λ there. record {
      filters = refl;
      lines = subst (λ (ls : List Line). LinesFit s (ls ++ forget slot ∷ []) (s.dropped ++ slot ∷ [])) (sym is.none) (there, refl);
      group = subst (λ o. IfSome o (IsOpenGroup s.filters (s.dropped ++ slot ∷ []))) (sym outside) tt;
    })

all_behind : {A : Type 0} (P : A → Type 0) (xs ys : List A) → AllByRecursion P xs → AllByRecursion P ys
    → AllByRecursion P (xs ++ ys)
all_behind P [] ys all more = more
all_behind P (x ∷ xs) ys all more = (all.0, all_behind P xs ys all.1 more)

inside_step : (o : Open) (s : Session) (c : Command) → IsBetween s → s.open_group ≡ Some o → IsCommand c
    → IfSome (take_inside o s c) (λ t. IsStep s t.session)
inside_step o s (an_edit e) is inside command =
    let group : IsOpenGroup s.filters s.dropped o = subst (λ g. IfSome g (IsOpenGroup s.filters s.dropped)) inside is.group in
    if-taken (λ t. IsStep s t.session) (has_its_filter s e && nat_lt (length o.edits) MAX_EDITS) _ (λ both.
    let parts = and_parts (has_its_filter s e) (nat_lt (length o.edits) MAX_EDITS) both in
    let lt = ltb-true (length o.edits) MAX_EDITS parts.1 in
    let more = length-append o.edits (e ∷ []) in
    record {
      filters = refl;
      lines = subst (λ (ls : List Line). LinesFit s ls s.dropped) (sym is.none) refl;
      group = record {
        each = all_behind IsEdit o.edits (e ∷ []) group.each (command, tt);
        few = omega (arith, lt, more);
        found = list_all-append (finds_filter s.filters s.dropped) o.edits (e ∷ []) ∙ rw (group.found, parts.0) refl;
      };
    })
inside_step o s ends is inside command =
    let group : IsOpenGroup s.filters s.dropped o = subst (λ g. IfSome g (IsOpenGroup s.filters s.dropped)) inside is.group in
    if-taken (λ t. IsStep s t.session) (nat_lt 0 (length o.edits)) _ (λ any.
    let some = ltb-true 0 (length o.edits) any in
    record {
      filters = refl;
      lines = subst (λ (ls : List Line). LinesFit s (ls ++ call (machine.edit o.guard o.edits) ∷ []) s.dropped) (sym is.none)
          ((record { some = omega (arith, some); few = group.few; each = group.each }, group.found), refl);
      group = tt;
    })
inside_step o s (begins guard) is inside command = tt
inside_step o s (a_call c) is inside command = tt
inside_step o s saves is inside command = tt
inside_step o s (forgets slot) is inside command = tt

step : (number : ℕ) (s : Session) (o : Option Open) (c : Command) → s.open_group ≡ o → IsBetween s → IsCommand c
    → IfSome (take_command number s o c) (λ t. IsStep s t.session)
step number s None c is_open is command = outside_step number s c is is_open command
step number s (Some o) c is_open is command = inside_step o s c is is_open command

-- ---- what is heard

-- what a session has dropped once this is done
abbrev pub dropped_then : Asks → (session : ℕ) → (dropped : List ℕ) → List ℕ
dropped_then (plays own line) session dropped = cond (own == session) (dropped_by dropped line) dropped
dropped_then (requests r) session dropped = dropped
dropped_then nothing session dropped = dropped
dropped_then bad session dropped = dropped

-- a line that is whole fits its session
abbrev pub AsksFit : Hearing → Asks → Type 0
AsksFit h (plays session line) = (session < 8) × IsFit (session_at h session).filters (session_at h session).dropped line
AsksFit h (requests r) = Unit {0}
AsksFit h nothing = Unit {0}
AsksFit h bad = Unit {0}

pub record IsHeardFit (old : Hearing) (heard : Heard) : Type 0 where
  pub hearing : IsHearing heard.hearing
  pub filters : (session : ℕ) → (session_at heard.hearing session).filters ≡ (session_at old session).filters
  pub dropped : (session : ℕ)
      → (session_at heard.hearing session).dropped ≡ dropped_then heard.asks session (session_at old session).dropped
  pub asked : AsksFit old heard.asks

same_fit : (h : Hearing) → IsHearing h → IsHeardFit h (record { asks = nothing; hearing = h })
same_fit h is = record { hearing = is; filters = λ s. refl; dropped = λ s. refl; asked = tt }

refused_fit : (number : ℕ) (words : List (List ℕ)) (h : Hearing) → IsHearing h → IsHeardFit h (refused number words h)
refused_fit number words h is = go (named_by words) where
  go : (named : Option ℕ) → IsHeardFit h (record { asks = bad; hearing = bad_at number named h })
  go (Some session) = record {
    hearing = record { eight = is.eight; between = is.between };
    filters = λ s. refl;
    dropped = λ s. refl;
    asked = tt;
  }
  go None = record {
    hearing = record { eight = is.eight; between = is.between };
    filters = λ s. refl;
    dropped = λ s. refl;
    asked = tt;
  }

-- a session at each place, whether it is this one or another
each_place : (place : ℕ) (P : ℕ → Type 0) → P place → ((s : ℕ) → place ≢ s → P s) → (s : ℕ) → P s
each_place place P here other s = go (place == s) refl where
  go : (b : Bool) → (place == s) ≡ b → P s
  go true q = subst P (eqb-true place s q) here
  go false q = other s (λ e. let bad : true ≡ false = sym (eq-eqb place s e) ∙ q in cc)

dropped_fit : (session : ℕ) (h : Hearing) → IsHearing h → session < 8 → IsHeardFit h (dropped session h)
dropped_fit session h is eight =
    let ss = h.parsed.sessions in
    let f : Session → Session = λ s. record s { open_group = None } in
    let lt : session < length ss = subst (λ n. session < n) (sym is.eight) eight in
    let here : get_or (changed_at session f ss) session (blank 0) ≡ f (get_or ss session (blank 0)) =
    changed_here session f ss (blank 0) lt in
    let other : (s : ℕ) → session ≢ s → get_or (changed_at session f ss) s (blank 0) ≡ get_or ss s (blank 0) =
    λ s apart. changed_other session s f ss (blank 0) apart in
    record {
      hearing = record {
        eight = changed_length session f ss ∙ is.eight;
        between = each_place session (λ s. IsBetween (get_or (changed_at session f ss) s (blank 0)))
            (subst IsBetween (sym here) (record { none = (is.between session).none; group = tt }))
            (λ s apart. subst IsBetween (sym (other s apart)) (is.between s));
      };
      filters = each_place session (λ s. (get_or (changed_at session f ss) s (blank 0)).filters ≡ (get_or ss s (blank 0)).filters)
          (ap (λ (x : Session). x.filters) here) (λ s apart. ap (λ (x : Session). x.filters) (other s apart));
      dropped = each_place session (λ s. (get_or (changed_at session f ss) s (blank 0)).dropped ≡ (get_or ss s (blank 0)).dropped)
          (ap (λ (x : Session). x.dropped) here) (λ s apart. ap (λ (x : Session). x.dropped) (other s apart));
      asked = tt;
    }

changed_got : {A : Type 0} (place : ℕ) (t : A) (xs : List A) → place < length xs
    → slice_get (changed_at place (λ _. t) xs) place ≡ Some t
changed_got place t [] within = absurd (omega (arith, within))
changed_got zero t (x ∷ xs) within = refl
changed_got (suc place) t (x ∷ xs) within = changed_got place t xs (omega (arith, within))

-- a session without its lines
abbrev cleared : Session → Session
cleared s = record s { lines = [] }

-- the step is done
done_fit : (session calls : ℕ) (h : Hearing) (s t : Session) → IsHearing h → session < length h.parsed.sessions
    → get_or h.parsed.sessions session (blank 0) ≡ s → IsStep s t
    → IsHeardFit h (record {
      asks = asks_of session (slice_get t.lines 0);
      hearing = record h {
        parsed = emptied session (record { sessions = changed_at session (λ _. t) h.parsed.sessions; calls = calls });
      };
    })
done_fit session calls h s t is lt at stepped = go t.lines stepped.lines where
  ss : List Session
  ss = h.parsed.sessions

  put : List Session
  put = changed_at session (λ _. t) ss

  new : List Session
  new = changed_at session cleared put

  here : get_or new session (blank 0) ≡ cleared t
  here =
      changed_here session cleared put (blank 0) (subst (λ n. session < n) (sym (changed_length session (λ _. t) ss)) lt)
      ∙ ap cleared (changed_here session (λ _. t) ss (blank 0) lt)

  other : (x : ℕ) → session ≢ x → get_or new x (blank 0) ≡ get_or ss x (blank 0)
  other x apart =
      changed_other session x cleared put (blank 0) apart ∙ changed_other session x (λ _. t) ss (blank 0) apart

  hearing : Hearing
  hearing = record h {
    parsed = emptied session (record { sessions = changed_at session (λ _. t) h.parsed.sessions; calls = calls });
  }

  heard : IsHearing hearing
  heard = record {
    eight = changed_length session cleared put ∙ changed_length session (λ _. t) ss ∙ is.eight;
    between = each_place session (λ x. IsBetween (get_or new x (blank 0)))
        (subst IsBetween (sym here) (record { none = refl; group = stepped.group }))
        (λ x apart. subst IsBetween (sym (other x apart)) (is.between x));
  }

  filters : (x : ℕ) → (get_or new x (blank 0)).filters ≡ (get_or ss x (blank 0)).filters
  filters = each_place session (λ x. (get_or new x (blank 0)).filters ≡ (get_or ss x (blank 0)).filters)
      (ap (λ (x : Session). x.filters) here ∙ stepped.filters ∙ sym (ap (λ (x : Session). x.filters) at))
      (λ x apart. ap (λ (y : Session). y.filters) (other x apart))

  go : (ls : List Line) → LinesFit s ls t.dropped
      → IsHeardFit h (record { asks = asks_of session (slice_get ls 0); hearing = hearing })
  go [] fit = record {
    hearing = heard;
    filters = filters;
    dropped = each_place session (λ x. (get_or new x (blank 0)).dropped ≡ (get_or ss x (blank 0)).dropped)
        (ap (λ (x : Session). x.dropped) here ∙ fit ∙ sym (ap (λ (x : Session). x.dropped) at))
        (λ x apart. ap (λ (y : Session). y.dropped) (other x apart));
    asked = tt;
  }
  go (line ∷ more) fit = record {
    hearing = heard;
    filters = filters;
    dropped = each_place session
        (λ x. (get_or new x (blank 0)).dropped
        ≡ cond (session == x) (dropped_by (get_or ss x (blank 0)).dropped line) (get_or ss x (blank 0)).dropped)
        (ap (λ (x : Session). x.dropped) here ∙ fit.1 ∙ sym (ap (λ (x : Session). dropped_by x.dropped line) at)
        ∙ sym (ap (λ (b : Bool). cond b (dropped_by (get_or ss session (blank 0)).dropped line) (get_or ss session (blank 0)).dropped)
        (eq-eqb session session refl)))
        (λ x apart.
        ap (λ (y : Session). y.dropped) (other x apart)
        ∙ sym (ap (λ (b : Bool). cond b (dropped_by (get_or ss x (blank 0)).dropped line) (get_or ss x (blank 0)).dropped)
        (ne_eqb session x apart)));
    asked = (subst (λ n. session < n) is.eight lt, subst (λ (x : Session). IsFit x.filters x.dropped line) (sym at) fit.0);
  }

taken_fit : (number : ℕ) (words : List (List ℕ)) (asked : Asked) (h : Hearing) → IsHearing h → IsCommand asked.command
    → IsHeardFit h (taken number words h asked.session (take_by number asked h.parsed))
taken_fit number words asked h is command = at (slice_get h.parsed.sessions asked.session) refl where
  session : ℕ
  session = asked.session

  put : (s : Session) (t : Taken) → IsStep s t.session → session < length h.parsed.sessions
      → get_or h.parsed.sessions session (blank 0) ≡ s → (b : Bool)
      → IsHeardFit h (taken number words h session
      (cond b (Some (record { sessions = changed_at session (λ _. t.session) h.parsed.sessions; calls = h.parsed.calls + t.begun })) None))
  put s t stepped lt is_at true =
      let got = changed_got session t.session h.parsed.sessions lt in
      let p : Parsed = record { sessions = changed_at session (λ _. t.session) h.parsed.sessions; calls = h.parsed.calls + t.begun } in
      subst (λ (o : Option Line). IsHeardFit h (record { asks = asks_of session o; hearing = record h { parsed = emptied session p } }))
      (sym (whole got)) (done_fit session (h.parsed.calls + t.begun) h s t.session is lt is_at stepped) where
        whole : slice_get (changed_at session (λ _. t.session) h.parsed.sessions) session ≡ Some t.session
            → whole_line (record { sessions = changed_at session (λ _. t.session) h.parsed.sessions; calls = h.parsed.calls + t.begun }) session
            ≡ slice_get t.session.lines 0
        whole got = rw got refl
  put s t stepped lt is_at false = refused_fit number words h is

  by : (s : Session) → session < length h.parsed.sessions → get_or h.parsed.sessions session (blank 0) ≡ s → (o : Option Taken)
      → IfSome o (λ t. IsStep s t.session)
      → IsHeardFit h (taken number words h session (o >>= put_session h.parsed session))
  by s lt is_at None stepped = refused_fit number words h is
  by s lt is_at (Some t) stepped = put s t stepped lt is_at (nat_le (h.parsed.calls + t.begun) MAX_CALLS)

  at : (o : Option Session) → slice_get h.parsed.sessions session ≡ o
      → IsHeardFit h (taken number words h session
      (o >>= λ s. take_command number s s.open_group asked.command >>= put_session h.parsed session))
  at None got = refused_fit number words h is
  at (Some s) got =
      let is_at : get_or h.parsed.sessions session (blank 0) ≡ s = get_or_from_slice_get h.parsed.sessions session s (blank 0) got in
      by s (slice_get_within h.parsed.sessions session s got) is_at (take_command number s s.open_group asked.command)
      (step number s s.open_group asked.command refl (subst IsBetween is_at (is.between session)) command)

below : (limit : ℕ) (word : List ℕ) → IfSome (number_below limit word) (λ n. n < limit)
below limit word = if-any (λ n. n < limit) (plain_number word) (λ n. if_holds (nat_lt n limit) n)
    (λ n. if-test (λ m. m < limit) (nat_lt n limit) n (λ e. ltb-true n limit e))

-- a session below eight
abbrev IsSession : Asked → Type 0
IsSession asked = asked.session < 8

below_eight : (words : List (List ℕ)) → IfSome (command_of words) IsSession
below_eight [] = tt
below_eight (s ∷ []) = tt
below_eight (s ∷ keyword ∷ words) =
    if-then (λ n. n < 8) IsSession (number_below 8 s) _ (below 8 s) (λ session lt.
    if-any IsSession (rule_of keyword words) _ (λ command. lt))

-- what a line asks for that is no request
pub heard_fit : (number : ℕ) (line : List ℕ) (h : Hearing) → IsHearing h → IsHeardFit h (hear_script number line h)
heard_fit number line h is = skip (is_skipped line) where
  words : List (List ℕ)
  words = words_of line

  by : (o : Option Asked) → IfSome o (λ asked. IsCommand asked.command) → IfSome o IsSession
      → IsHeardFit h (scripted number words h o)
  by None command eight = refused_fit number words h is
  by (Some asked) command eight = go (drops h asked) where
    go : (b : Bool) → IsHeardFit h
        (cond b (dropped asked.session h) (taken number words h asked.session (take_by number asked h.parsed)))
    go true = dropped_fit asked.session h is eight
    go false = taken_fit number words asked h is command

  skip : (b : Bool)
      → IsHeardFit h (cond b (record { asks = nothing; hearing = h }) (scripted number words h (command_of words)))
  skip true = same_fit h is
  skip false = by (command_of words) (keeps-command words) (below_eight words)

-- ---- before the first line

blank_at : (chests : List ℕ) (session n at : ℕ) → at < n
    → get_or (map (λ s. blank (unwrap_or (slice_get chests s) 0)) (count_from session n)) at (blank 0)
    ≡ blank (unwrap_or (slice_get chests (session + at)) 0)
blank_at chests session zero at lt = absurd (omega (arith, lt))
blank_at chests session (suc n) zero lt = ap (λ m. blank (unwrap_or (slice_get chests m) 0)) (omega arith)
blank_at chests session (suc n) (suc at) lt =
    let next : suc session + at ≡ session + suc at = omega arith in
    blank_at chests (suc session) n at (omega (arith, lt)) ∙ ap (λ m. blank (unwrap_or (slice_get chests m) 0)) next

pub start_at : (chests : List ℕ) (session : ℕ) → session < 8
    → session_at (start_hearing chests) session ≡ blank (unwrap_or (slice_get chests session) 0)
start_at chests session lt =
    let same : 0 + session ≡ session = omega arith in
    blank_at chests 0 8 session lt ∙ ap (λ m. blank (unwrap_or (slice_get chests m) 0)) same

blank_between : (chests : List ℕ) (session n at : ℕ)
    → IsBetween (get_or (map (λ s. blank (unwrap_or (slice_get chests s) 0)) (count_from session n)) at (blank 0))
blank_between chests session zero at = record { none = refl; group = tt }
blank_between chests session (suc n) zero = record { none = refl; group = tt }
blank_between chests session (suc n) (suc at) = blank_between chests (suc session) n at

pub start_heard : (chests : List ℕ) → IsHearing (start_hearing chests)
start_heard chests = record { eight = refl; between = λ s. blank_between chests 0 8 s }
