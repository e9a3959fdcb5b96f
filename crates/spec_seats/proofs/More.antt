-- What a session has made, as the history grows: by entries of others, by a call of its own, by a save.
use Rattle.std.proofs.Common.{◌≡◌, ℕ, ◌<◌, ◌≤◌, false, List, [], ◌∷◌, ◌++◌, length, Some, None, refl, sym, ◌∙◌, ap}
use Rattle.std.proofs.Common.{subst, arith, append-nil, length-append}
use Rattle.std.specs.Prelude.{Option}
use Rattle.std.specs.List.{AllByRecursion, cons_option}
use Rattle.std.proofs.lemmas.List.Elements.{filter_map-append}
use mathlib.Core.List.{IsPrefix}
use Rattle.spec_filters.specs.declared.FilterState.{FilterState}
use Rattle.spec_history.specs.Machine as machine
use Rattle.spec_history.specs.Machine.{Call, Reply}
use Rattle.spec_history.specs.History.{Entry, asked, starts, ends, latest_of}
use Rattle.spec_history.specs.Kept.{IsFreshReply}
use Rattle.spec_script.specs.Script.{Line, call, save, forget}
use Rattle.spec_tables.specs.Tables.{HaveTables, expected_tables, filters_after, tables_in}
use Rattle.spec_text.specs.Text.{calls_of, is_save_memory, made_by}
use Rattle.spec_seats.specs.Picked.{picked, seen_at, IsCaughtUp, IsFreshAt}
use Rattle.spec_seats.specs.Ended.{MayFollow, opened_by, AreEndedFrom, AreEnded}
use Rattle.spec_seats.specs.Made.{IsOf, HasMade}
use Rattle.spec_text.specs.Text.{calls_along}
use Rattle.spec_tables.specs.Tables.{filters_along}
use Rattle.spec_seats.proofs.Places.{all_later, all_and_last, rise_more}
use Rattle.spec_seats.proofs.Entries.{picked-grows, picked-last, picked-none, seen-none, seen-grows, seen-last}
use Rattle.spec_seats.proofs.Entries.{fresh-grows, fresh-last}

-- ---- lists with one more

pub all_more : {X : Type 0} (P : X → Type 0) (xs : List X) (x : X) → AllByRecursion P xs → P x → AllByRecursion P (xs ++ x ∷ [])
all_more P [] x all last = (last, tt)
all_more P (y ∷ xs) x all last = (all.0, all_more P xs x all.1 last)

prefix_length : {X : Type 0} (xs ys : List X) → IsPrefix xs ys → length xs ≤ length ys
prefix_length xs ys begins = let l = ap length begins.1 in let m = length-append xs begins.0 in omega (arith, l, m)

within_prefix : (places : List ℕ) (es new : List Entry) → IsPrefix es new → AllByRecursion (λ p. p < length es) places
    → AllByRecursion (λ p. p < length new) places
within_prefix places es new begins within = all_later (length es) (length new) places (prefix_length es new begins) within

-- ---- what is picked, and seen, of a longer history

pub picked_grown : (places : List ℕ) (es new : List Entry) → IsPrefix es new → AllByRecursion (λ p. p < length es) places
    → picked places new ≡ picked places es
picked_grown places es new begins within = sym (ap (picked places) begins.1) ∙ picked-grows places es begins.0 within

pub seen_grown : (places : List ℕ) (es new : List Entry) → IsPrefix es new → AllByRecursion (λ p. p < length es) places
    → seen_at places new ≡ seen_at places es
seen_grown places es new begins within = sym (ap (seen_at places) begins.1) ∙ seen-grows places es begins.0 within

pub fresh_grown : (places : List ℕ) (es new : List Entry) → IsPrefix es new → AllByRecursion (λ p. p < length es) places
    → IsFreshAt places es → IsFreshAt places new
fresh_grown places es new begins within fresh = subst (IsFreshAt places) begins.1 (fresh-grows places es begins.0 within fresh)

pub picked_one : (places : List ℕ) (es entered : List Entry) (e : Entry) → IsPrefix es entered
    → AllByRecursion (λ p. p < length es) places
    → picked (places ++ length entered ∷ []) (entered ++ e ∷ []) ≡ picked places es ++ e ∷ []
picked_one places es entered e begins within =
    picked-last places entered e ∙ ap (λ xs. xs ++ e ∷ []) (picked_grown places es entered begins within)

within_one : (places : List ℕ) (es entered : List Entry) (e : Entry) → IsPrefix es entered
    → AllByRecursion (λ p. p < length es) places
    → AllByRecursion (λ p. p < length (entered ++ e ∷ [])) (places ++ length entered ∷ [])
within_one places es entered e begins within =
    let l = length-append entered (e ∷ []) in
    let le = prefix_length es entered begins in
    let longer : length es ≤ length (entered ++ e ∷ []) = omega (arith, l, le) in
    let last : length entered < length (entered ++ e ∷ []) = omega (arith, l) in
    all_and_last (length (entered ++ e ∷ [])) (length entered) places
    (all_later (length es) (length (entered ++ e ∷ [])) places longer within) last

-- ---- whose they are

pub of_none : (session : ℕ) (es : List Entry) → IsOf session [] es
of_none session es = record {
  own = subst (AllByRecursion (λ e. e.session ≡ session)) (sym (picked-none 0 es)) tt;
  ended = subst AreEnded (sym (picked-none 0 es)) tt;
  within = tt;
  rise = tt;
}

pub of_grows : (session : ℕ) (places : List ℕ) (es new : List Entry) → IsPrefix es new → IsOf session places es
    → IsOf session places new
of_grows session places es new begins of =
    let same = sym (picked_grown places es new begins of.within) in
    record {
      own = subst (AllByRecursion (λ e. e.session ≡ session)) same of.own;
      ended = subst AreEnded same of.ended;
      within = within_prefix places es new begins of.within;
      rise = of.rise;
    }

ended_call : (start : Option Entry) (es : List Entry) (e : Entry) (c : Call) (tables : List (List ℕ)) → e.kind ≡ asked c tables
    → AreEndedFrom start es → AreEndedFrom start (es ++ e ∷ [])
ended_call None [] e c tables is ended = subst (λ k. MayFollow None e k × AreEndedFrom (opened_by e k) []) (sym is) (tt, tt)
ended_call (Some start) [] e c tables is ended = absurd ended
ended_call start (x ∷ es) e c tables is ended = (ended.0, ended_call (opened_by x x.kind) es e c tables is ended.1)

ended_save : (start : Option Entry) (es : List Entry) (s t : Entry) → s.kind ≡ starts → t.kind ≡ ends → t.session ≡ s.session
    → t.index ≡ s.index
    → AreEndedFrom start es → AreEndedFrom start ((es ++ s ∷ []) ++ t ∷ [])
ended_save None [] s t starts_so ends_so session index ended =
    subst (λ k. MayFollow None s k × (MayFollow (opened_by s k) t t.kind × AreEndedFrom (opened_by t t.kind) [])) (sym starts_so)
    (tt, subst (λ k. MayFollow (Some s) t k × AreEndedFrom (opened_by t k) []) (sym ends_so) ((session, index), tt))
ended_save (Some start) [] s t starts_so ends_so session index ended = absurd ended
ended_save start (x ∷ es) s t starts_so ends_so session index ended =
    (ended.0, ended_save (opened_by x x.kind) es s t starts_so ends_so session index ended.1)

-- a call more
pub of_call : (session : ℕ) (places : List ℕ) (es entered : List Entry) (e : Entry) (c : Call) (tables : List (List ℕ))
    → IsOf session places es → IsPrefix es entered
    → e.session ≡ session → e.kind ≡ asked c tables → IsOf session (places ++ length entered ∷ []) (entered ++ e ∷ [])
of_call session places es entered e c tables of begins own is =
    let same = sym (picked_one places es entered e begins of.within) in
    record {
      own = subst (AllByRecursion (λ x. x.session ≡ session)) same
          (all_more (λ x. x.session ≡ session) (picked places es) e of.own own);
      ended = subst AreEnded same (ended_call None (picked places es) e c tables is of.ended);
      within = within_one places es entered e begins of.within;
      rise = rise_more (length entered) places of.rise
          (all_later (length es) (length entered) places (prefix_length es entered begins) of.within);
    }

-- ---- a save: its start, calls of others, and its end

-- the history up to the end of a save
abbrev pub before_end : (entered : List Entry) → (start : Entry) → (between : List Entry) → List Entry
before_end entered start between = (entered ++ start ∷ []) ++ between

-- the places with those of the start and the end
abbrev pub with_save : (places : List ℕ) → (entered : List Entry) → (start : Entry) → (between : List Entry) → List ℕ
with_save places entered start between = (places ++ length entered ∷ []) ++ length (before_end entered start between) ∷ []

pub picked_two : (places : List ℕ) (es entered : List Entry) (s : Entry) (between : List Entry) (t : Entry) → IsPrefix es entered
    → AllByRecursion (λ p. p < length es) places
    → picked (with_save places entered s between) (before_end entered s between ++ t ∷ []) ≡ (picked places es ++ s ∷ []) ++ t ∷ []
picked_two places es entered s between t begins within =
    picked_one (places ++ length entered ∷ []) (entered ++ s ∷ []) (before_end entered s between) t (
      between,
      refl,
    ) (within_one places es entered s begins within)
    ∙ ap (λ xs. xs ++ t ∷ []) (picked_one places es entered s begins within)

pub of_save : (session : ℕ) (places : List ℕ) (es entered : List Entry) (s : Entry) (between : List Entry) (t : Entry)
    → IsOf session places es → IsPrefix es entered
    → s.session ≡ session → t.session ≡ session → t.index ≡ s.index → s.kind ≡ starts → t.kind ≡ ends
    → IsOf session (with_save places entered s between) (before_end entered s between ++ t ∷ [])
of_save session places es entered s between t of begins own own_end index starts_so ends_so =
    let same = sym (picked_two places es entered s between t begins of.within) in
    let Own : Entry → Type 0 = λ x. x.session ≡ session in
    let started = entered ++ s ∷ [] in
    let within : AllByRecursion (λ p. p < length started) (places ++ length entered ∷ []) =
    within_one places es entered s begins of.within in
    let first = rise_more (length entered) places of.rise
    (all_later (length es) (length entered) places (prefix_length es entered begins) of.within) in
    record {
      own = subst (AllByRecursion Own) same
          (all_more Own (picked places es ++ s ∷ []) t (all_more Own (picked places es) s of.own own) own_end);
      ended = subst AreEnded same (ended_save None (picked places es) s t starts_so ends_so (own_end ∙ sym own) index of.ended);
      within = within_one (places ++ length entered ∷ []) started (before_end entered s between) t (between, refl) within;
      rise = rise_more (length (before_end entered s between)) (places ++ length entered ∷ []) first
          (within_prefix (places ++ length entered ∷ []) started (before_end entered s between) (between, refl) within);
    }

-- ---- the calls of lines, and the tables

pub calls_of-append : (lines more : List Line) → calls_of (lines ++ more) ≡ calls_of lines ++ calls_of more
calls_of-append [] more = refl
calls_of-append (call c ∷ lines) more = ap (λ xs. call c ∷ xs) (calls_of-append lines more)
calls_of-append (save ∷ lines) more = ap (λ xs. save ∷ xs) (calls_of-append lines more)
calls_of-append (forget slot ∷ lines) more = calls_of-append lines more

calls_one : (es : List Entry) (e : Entry) (line : Line) → made_by e.kind ≡ Some line
    → calls_along (es ++ e ∷ []) ≡ calls_along es ++ line ∷ []
calls_one es e line is =
    filter_map-append (λ x. made_by x.kind) es (e ∷ []) ∙ ap (λ xs. calls_along es ++ xs) (one (made_by e.kind) line is) where
      one : (o : Option Line) (line : Line) → o ≡ Some line → cons_option o [] ≡ line ∷ []
      one o line is = ap (λ x. cons_option x []) is

calls_end : (es : List Entry) (e : Entry) → made_by e.kind ≡ None → calls_along (es ++ e ∷ []) ≡ calls_along es
calls_end es e is = filter_map-append (λ x. made_by x.kind) es (e ∷ []) ∙ ap (λ o. calls_along es ++ cons_option o []) is
    ∙ append-nil (calls_along es)

pub tables_more : (filters : List FilterState) (es : List Entry) (e : Entry) → HaveTables filters es
    → tables_in e.kind ≡ expected_tables (filters_along filters es) e.kind e.reply → HaveTables filters (es ++ e ∷ [])
tables_more filters [] e have here = (here, tt)
tables_more filters (x ∷ es) e have here = (have.0, tables_more (filters_after filters x.kind x.reply) es e have.1 here)

-- what is expected of a call does not look at the tables that it has
pub expected_same : (filters : List FilterState) (c : Call) (tables others : List (List ℕ)) (r : Reply)
    → expected_tables filters (asked c tables) r ≡ expected_tables filters (asked c others) r
expected_same filters (machine.edit guard edits) tables others (machine.changed version group next) = refl
expected_same filters (machine.edit guard edits) tables others r = refl
expected_same filters (machine.undo named) tables others r = refl
expected_same filters machine.redo tables others r = refl
expected_same filters (machine.tile stack at) tables others r = refl
expected_same filters (machine.peek stack at) tables others r = refl
expected_same filters machine.top tables others r = refl

no_tables_start : (filters : List FilterState) (r : Reply) → tables_in starts ≡ expected_tables filters starts r
no_tables_start filters r = refl

no_tables_end : (filters : List FilterState) (r : Reply) → tables_in ends ≡ expected_tables filters ends r
no_tables_end filters r = refl

-- ---- what a session has made

-- nothing yet
pub made_none : (session : ℕ) (filters : List FilterState) (es : List Entry) → HasMade session filters [] [] es
made_none session filters es =
    let none = sym (picked-none 0 es) in
    record {
      of = of_none session es;
      printable = subst (AllByRecursion (λ e. is_save_memory e.reply ≡ false)) none tt;
      calls = ap calls_along (picked-none 0 es);
      tables = subst (HaveTables filters) none tt;
      fresh = fresh_grown [] [] es (es, refl) tt tt;
    }

-- it has seen what there is where nothing has changed yet
pub caught_up_none : (es : List Entry) → latest_of es ≡ 0 → IsCaughtUp [] es
caught_up_none es none = seen-none es ∙ sym none

-- the entries of others change nothing
pub made_grows : (session : ℕ) (filters : List FilterState) (lines : List Line) (places : List ℕ) (es new : List Entry)
    → IsPrefix es new
    → HasMade session filters lines places es → HasMade session filters lines places new
made_grows session filters lines places es new begins made =
    let within = made.of.within in
    let same = picked_grown places es new begins within in
    record {
      of = of_grows session places es new begins made.of;
      printable = subst (AllByRecursion (λ e. is_save_memory e.reply ≡ false)) (sym same) made.printable;
      calls = ap calls_along same ∙ made.calls;
      tables = subst (HaveTables filters) (sym same) made.tables;
      fresh = fresh_grown places es new begins within made.fresh;
    }

-- a call more; after it the session has seen the last version
pub made_call : (session : ℕ) (filters : List FilterState) (lines : List Line) (places : List ℕ) (es entered : List Entry)
    (e : Entry) (c : Call) (tables : List (List ℕ))
    → HasMade session filters lines places es → IsCaughtUp places es → IsPrefix es entered → e.session ≡ session
    → e.kind ≡ asked c tables
    → tables ≡ expected_tables (filters_along filters (picked places es)) (asked c []) e.reply → is_save_memory e.reply ≡ false
    → IsFreshReply (latest_of es) e.reply
    → HasMade session filters (lines ++ call c ∷ []) (places ++ length entered ∷ []) (entered ++ e ∷ [])
made_call session filters lines places es entered e c tables made up begins own is has printed fresh =
    let within = made.of.within in
    let same = picked_one places es entered e begins within in
    let Printable : Entry → Type 0 = λ x. is_save_memory x.reply ≡ false in
    let filters_now = filters_along filters (picked places es) in
    let here : tables_in e.kind ≡ expected_tables filters_now e.kind e.reply =
    subst (λ k. tables_in k ≡ expected_tables filters_now k e.reply) (sym is) (has
    ∙ expected_same filters_now c [] tables e.reply) in
    record {
      of = of_call session places es entered e c tables made.of begins own is;
      printable = subst (AllByRecursion Printable) (sym same) (all_more Printable (picked places es) e made.printable printed);
      calls = ap calls_along same ∙ calls_one (picked places es) e (call c) (ap made_by is)
          ∙ ap (λ xs. xs ++ call c ∷ []) made.calls ∙ sym (calls_of-append lines (call c ∷ []));
      tables = subst (HaveTables filters) (sym same) (tables_more filters (picked places es) e made.tables here);
      fresh = fresh-last places entered e (fresh_grown places es entered begins within made.fresh)
          (subst (λ n. IsFreshReply n e.reply) (sym (seen_grown places es entered begins within ∙ up)) fresh);
    }

pub caught_up_last : (places : List ℕ) (entered : List Entry) (e : Entry)
    → IsCaughtUp (places ++ length entered ∷ []) (entered ++ e ∷ [])
caught_up_last places entered e = seen-last places entered e

-- a save more, which was written or stopped by a fault
pub made_save : (session : ℕ) (filters : List FilterState) (lines : List Line) (places : List ℕ) (es entered : List Entry)
    (s : Entry) (between : List Entry) (t : Entry)
    → HasMade session filters lines places es → IsPrefix es entered
    → s.session ≡ session → t.session ≡ session → t.index ≡ s.index → s.kind ≡ starts → t.kind ≡ ends
    → is_save_memory s.reply ≡ false → is_save_memory t.reply ≡ false → ((seen : ℕ) → IsFreshReply seen s.reply)
    → ((seen : ℕ) → IsFreshReply seen t.reply)
    → HasMade session filters (lines ++ save ∷ []) (with_save places entered s between) (before_end entered s between ++ t ∷ [])
made_save session filters lines places es entered s between t made begins own own_end index starts_so ends_so printed printed_end
    fresh fresh_end =
    let within = made.of.within in
    let same = picked_two places es entered s between t begins within in
    let mine = picked places es in
    let Printable : Entry → Type 0 = λ x. is_save_memory x.reply ≡ false in
    let first = filters_along filters mine in
    let second = filters_along filters (mine ++ s ∷ []) in
    let start_tables : tables_in s.kind ≡ expected_tables first s.kind s.reply =
    subst (λ k. tables_in k ≡ expected_tables first k s.reply) (sym starts_so) (no_tables_start first s.reply) in
    let end_tables : tables_in t.kind ≡ expected_tables second t.kind t.reply =
    subst (λ k. tables_in k ≡ expected_tables second k t.reply) (sym ends_so) (no_tables_end second t.reply) in
    let started = entered ++ s ∷ [] in
    let started_at = places ++ length entered ∷ [] in
    let fresh_first = fresh-last places entered s (fresh_grown places es entered begins within made.fresh)
    (fresh (seen_at places entered)) in
    let begun = within_one places es entered s begins within in
    record {
      of = of_save session places es entered s between t made.of begins own own_end index starts_so ends_so;
      printable = subst (AllByRecursion Printable) (sym same)
          (all_more Printable (mine ++ s ∷ []) t (all_more Printable mine s made.printable printed) printed_end);
      calls = ap calls_along same ∙ calls_end (mine ++ s ∷ []) t (ap made_by ends_so) ∙ calls_one mine s save (ap made_by starts_so)
          ∙ ap (λ xs. xs ++ save ∷ []) made.calls
          ∙ sym (calls_of-append lines (save ∷ []));
      tables = subst (HaveTables filters) (sym same)
          (tables_more filters (mine ++ s ∷ []) t (tables_more filters mine s made.tables start_tables) end_tables);
      fresh = fresh-last started_at (before_end entered s between) t
          (fresh_grown started_at started (before_end entered s between) (between, refl) begun fresh_first)
          (fresh_end (seen_at started_at (before_end entered s between)));
    }

-- a filter that is forgotten is no call
pub made_forget : (session : ℕ) (filters : List FilterState) (lines : List Line) (slot : ℕ) (places : List ℕ) (es : List Entry)
    → HasMade session filters lines places es → HasMade session filters (lines ++ forget slot ∷ []) places es
made_forget session filters lines slot places es made = record {
  of = made.of;
  printable = made.printable;
  calls = made.calls ∙ sym (calls_of-append lines (forget slot ∷ []) ∙ append-nil (calls_of lines));
  tables = made.tables;
  fresh = made.fresh;
}
