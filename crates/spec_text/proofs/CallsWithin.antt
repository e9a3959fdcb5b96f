-- The entries of a text are within the limits of the script's calls, and are few.
use Rattle.std.proofs.Common.{◌≡◌, ℕ, zero, suc, ◌+◌, ◌-◌, ◌*◌, ◌<◌, ◌≤◌, Bool, true, false, cond, eqb, ltb, max}
use Rattle.std.proofs.Common.{min, List, [], ◌∷◌, ◌++◌, length, map, filter, refl, ap, sym, subst, arith}
use Rattle.std.specs.Prelude.{Option, Some, None, nat_le, slice_get, unwrap_or, option_map, option_to_list}
use Rattle.std.specs.List.{AllByRecursion, cons_option}
use Rattle.std.proofs.Math.Nat.{div-lt_iff_lt-mul}
use Rattle.std.proofs.lemmas.Bool.{eq-eqb, eqb-false, ltb-true, ltb-false}
use Rattle.spec_document.specs.Blend.{mul}
use Rattle.spec_document.proofs.OverLemmas.{mul-le_right, mul-le_left}
use Rattle.spec_document.proofs.Elements.{all-append}
use Rattle.spec_document.specs.Document.{Document}
use Rattle.spec_document.specs.Limits.{AreBytes}
use Rattle.spec_edit.specs.Edit as edits
use Rattle.spec_edit.specs.Edit.{Edit}
use Rattle.spec_edit.specs.Effect.{changed_at}
use Rattle.spec_filters.specs.Filters.{posterize_byte, table_byte, table_of, after_use}
use Rattle.spec_filters.specs.declared.FilterKind.{FilterKind}
use Rattle.spec_filters.specs.declared.FilterKind.TheVariants.{Invert, Threshold, Posterize, Fade}
use Rattle.spec_filters.specs.declared.FilterState.{FilterState}
use Rattle.spec_document.specs.Rect.{count_from}
use Rattle.spec_history.specs.Calls.{IsCall}
use Rattle.spec_history.specs.declared.TheConstants.{MAX_ENTRIES}
use Rattle.spec_history.specs.History.{Entry, Kind, asked, starts, ends, MayBe, MayEnd, after_kind, after_entry}
use Rattle.spec_history.specs.History.{RunFrom, mine}
use Rattle.spec_history.specs.Limited.{AsksCall, AreCalls}
use Rattle.spec_history.specs.Machine as machine
use Rattle.spec_history.specs.Machine.{Reply, changed, State, Saving, initial}
use Rattle.spec_history.proofs.Growing.{out-answer}
use Rattle.spec_script.specs.Fits.{AreFit, EachFit, FitsFilters, count_calls}
use Rattle.spec_script.specs.Script.{Line, call, save, forget, is_call, list_at}
use Rattle.spec_tables.specs.Tables.{HaveTables, expected_tables, filters_after, table_at, tables_for, tables_in}
use Rattle.spec_text.specs.Text.{IsTextOf, calls_along, calls_in, calls_of, made_by}

-- ---- tables have bytes

posterized : (n b : ℕ) → 2 ≤ n → b < 256 → posterize_byte n b < 256
posterized n b some low =
    let m : mul b (n - 1) ≤ n - 1 = mul-le_right b (n - 1) (omega arith) in
    let positive : 0 < 2 * (n - 1) = omega arith in
    let below : 510 * mul b (n - 1) + (n - 1) < 256 * (2 * (n - 1)) = omega (arith, m, some) in
    (div-lt_iff_lt-mul positive).1 below

thresholded : (c : Bool) → cond c 255 0 < 256
thresholded true = omega arith
thresholded false = omega arith

byte_below : (kind : FilterKind) (amount uses b : ℕ) → b < 256 → table_byte kind amount uses b < 256
byte_below Invert amount uses b low = omega arith
byte_below Threshold amount uses b low = thresholded (nat_le amount b)
byte_below Posterize amount uses b low = posterized (max 2 amount) b (omega arith) low
byte_below Fade amount uses b low = let m = mul-le_left b (255 - min 255 (uses * amount)) (omega arith) in omega (arith, m, low)

table_below : (kind : FilterKind) (amount uses first n : ℕ) → first + n ≤ 256
    → AreBytes (map (table_byte kind amount uses) (count_from first n))
table_below kind amount uses first zero within = tt
table_below kind amount uses first (suc n) within =
    (byte_below kind amount uses first (omega arith), table_below kind amount uses (suc first) n (omega arith))

table_bytes : (f : FilterState) → AreBytes (table_of f)
unfolding table_of
table_bytes f = table_below f.kind f.amount f.uses 0 256 (omega arith)

one_table : (o : Option FilterState) → AllByRecursion AreBytes (option_to_list (option_map table_of o))
one_table None = tt
one_table (Some f) = (table_bytes f, tt)

tables_bytes : (filters : List FilterState) (es : List Edit) → AllByRecursion AreBytes (tables_for filters es)
tables_bytes filters [] = tt
tables_bytes filters (edits.filter id rect slot ∷ rest) =
    all-append AreBytes (table_at filters slot) (tables_for (changed_at slot after_use filters) rest)
    (one_table (slice_get filters slot)) (tables_bytes (changed_at slot after_use filters) rest)
tables_bytes filters (edit ∷ rest) = tables_bytes filters rest

expected_bytes : (filters : List FilterState) (k : Kind) (r : Reply) → AllByRecursion AreBytes (expected_tables filters k r)
expected_bytes filters (asked (machine.edit guard es) tables) (changed version group next) = tables_bytes filters es
expected_bytes filters k r = tt

abbrev HasBytes : Entry → Type 0
HasBytes e = AllByRecursion AreBytes (tables_in e.kind)

have_bytes : (filters : List FilterState) (es : List Entry) → HaveTables filters es → AllByRecursion HasBytes es
have_bytes filters [] have = tt
have_bytes filters (e ∷ es) have = (
  subst (AllByRecursion AreBytes) (sym have.0) (expected_bytes filters e.kind e.reply),
  have_bytes (filters_after filters e.kind e.reply) es have.1,
)

-- ---- calls are within their types

abbrev IsCallOf : Line → Type 0
IsCallOf (call c) = IsCall c
IsCallOf save = Unit {0}
IsCallOf (forget slot) = Unit {0}

fit_calls : (n : ℕ) (dropped : List ℕ) (lines : List Line) → AreFit n dropped lines → AllByRecursion IsCallOf (calls_of lines)
fit_calls n dropped [] fit = tt
fit_calls n dropped (call c ∷ lines) fit = (fit.0.0, fit_calls n dropped lines fit.1)
fit_calls n dropped (save ∷ lines) fit = (tt, fit_calls n dropped lines fit.1)
fit_calls n dropped (forget slot ∷ lines) fit = fit_calls n (dropped ++ slot ∷ []) lines fit.1

each_calls : (counts : List ℕ) (first : ℕ) (lists : List (List Line)) (session : ℕ) → EachFit counts first lists
    → AllByRecursion IsCallOf (calls_of (list_at lists session))
each_calls counts first [] session each = tt
each_calls counts first (lines ∷ lists) zero each = fit_calls (unwrap_or (slice_get counts first) 0) [] lines each.0
each_calls counts first (lines ∷ lists) (suc session) each = each_calls counts (suc first) lists session each.1

abbrev Asks : Entry → Type 0
Asks e = AsksCall e.kind

asks_each : (es : List Entry) → AllByRecursion IsCallOf (calls_along es) → AllByRecursion HasBytes es → AllByRecursion Asks es
asks_each [] calls bytes = tt
asks_each (e ∷ es) calls bytes = go e.kind calls bytes.0 (λ more. asks_each es more bytes.1) where
  go : (k : Kind) → AllByRecursion IsCallOf (cons_option (made_by k) (calls_along es)) → AllByRecursion AreBytes (tables_in k)
      → (AllByRecursion IsCallOf (calls_along es) → AllByRecursion Asks es) → AsksCall k × AllByRecursion Asks es
  go (asked c tables) calls bytes rest = ((calls.0, bytes), rest calls.1)
  go starts calls bytes rest = (tt, rest calls.1)
  go ends calls bytes rest = (tt, rest calls)

-- what holds of each session's entries holds of all
pub of_sessions : (P : Entry → Type 0) (es : List Entry) → ((session : ℕ) → AllByRecursion P (mine es session)) → AllByRecursion P es
of_sessions P [] each = tt
of_sessions P (e ∷ es) each = (
  (subst (λ (b : Bool). AllByRecursion P (cond b (e ∷ mine es e.session) (mine es e.session))) (eq-eqb e.session e.session refl)
      (each e.session)).0,
  of_sessions P es (λ session. rest (eqb e.session session) session (each session)),
) where
  rest : (b : Bool) (session : ℕ) → AllByRecursion P (cond b (e ∷ mine es session) (mine es session))
      → AllByRecursion P (mine es session)
  rest true session h = h.1
  rest false session h = h

-- ---- there are two entries for each call at most

abbrev owed : Option Saving → ℕ
owed None = 0
owed (Some out) = 1

ends_once : (out : Option Saving) (e : Entry) → MayEnd out e.session e.index e.reply → owed out ≡ 1
ends_once None e may = absurd may
ends_once (Some out) e may = refl

run_short : (base : Document) (s : State) (earlier es : List Entry) → RunFrom base s earlier es
    → length es ≤ 2 * length (calls_along es) + owed s.out
run_short base s earlier [] run = omega arith
run_short base s earlier (e ∷ es) run = go e.kind run.0 (run_short base (after_entry base s e) (earlier ++ e ∷ []) es run.1) where
  go : (k : Kind) → MayBe base s earlier e k → length es ≤ 2 * length (calls_along es) + owed (after_kind base s e k).out
      → length (e ∷ es) ≤ 2 * length (cons_option (made_by k) (calls_along es)) + owed s.out
  go (asked c tables) may rest =
      let same : owed (after_kind base s e (asked c tables)).out ≡ owed s.out = ap owed (out-answer base s c tables) in
      omega (arith, rest, same)
  go starts may rest = omega (arith, rest)
  go ends may rest = let once = ends_once s.out e may in omega (arith, rest, once)

-- ---- the calls of all sessions

abbrev sum_over : (f : ℕ → ℕ) → (first n : ℕ) → ℕ
sum_over f first zero = 0
sum_over f first (suc n) = f first + sum_over f (suc first) n

sum_more : (f g h : ℕ → ℕ) (first n : ℕ) → ((session : ℕ) → f session ≡ g session + h session)
    → sum_over f first n ≡ sum_over g first n + sum_over h first n
sum_more f g h first zero each = refl
sum_more f g h first (suc n) each = let here = each first in let rest = sum_more f g h (suc first) n each in
    omega (arith, here, rest)

sum_same : (f g : ℕ → ℕ) (first n : ℕ) → ((session : ℕ) → session < first + n → f session ≡ g session)
    → sum_over f first n ≡ sum_over g first n
sum_same f g first zero each = refl
sum_same f g first (suc n) each =
    let here = each first (omega arith) in
    let rest = sum_same f g (suc first) n (λ session low. each session (omega (arith, low))) in
    omega (arith, here, rest)

sum_shift : (f : ℕ → ℕ) (first n : ℕ) → sum_over f (suc first) n ≡ sum_over (λ session. f (suc session)) first n
sum_shift f first zero = refl
sum_shift f first (suc n) = ap (λ (k : ℕ). f (suc first) + k) (sum_shift f (suc first) n)

sum_none : (f : ℕ → ℕ) (first n : ℕ) → ((session : ℕ) → f session ≡ 0) → sum_over f first n ≡ 0
sum_none f first zero each = refl
sum_none f first (suc n) each = let here = each first in let rest = sum_none f (suc first) n each in omega (arith, here, rest)

-- one of them counts
abbrev at_session : (x k : ℕ) → (session : ℕ) → ℕ
at_session x k session = cond (eqb x session) k 0

one_counts : (x k first n : ℕ) → first ≤ x → x < first + n → k ≤ sum_over (at_session x k) first n
one_counts x k first zero above below = absurd (omega (arith, above, below))
one_counts x k first (suc n) above below = go (eqb x first) refl (one_counts x k (suc first) n) where
  go : (b : Bool) → eqb x first ≡ b → (suc first ≤ x → x < suc first + n → k ≤ sum_over (at_session x k) (suc first) n)
      → k ≤ cond (eqb x first) k 0 + sum_over (at_session x k) (suc first) n
  go true is rest = let here : cond (eqb x first) k 0 ≡ k = ap (λ (b : Bool). cond b k 0) is in omega (arith, here)
  go false is rest =
      let other : (x ≡ first → ⊥) = eqb-false x first is in
      let more = rest (omega (arith, above, other)) (omega (arith, below)) in
      omega (arith, more)

abbrev made_count : Option Line → ℕ
made_count None = 0
made_count (Some line) = 1

made_more : (o : Option Line) (lines : List Line) → length (cons_option o lines) ≡ made_count o + length lines
made_more None lines = omega arith
made_more (Some line) lines = omega arith

abbrev made_at : List Entry → (session : ℕ) → ℕ
made_at es session = length (calls_along (mine es session))

made_at_more : (e : Entry) (es : List Entry) (session : ℕ)
    → made_at (e ∷ es) session ≡ at_session e.session (made_count (made_by e.kind)) session + made_at es session
made_at_more e es session = go (eqb e.session session) where
  go : (b : Bool) → length (calls_along (cond b (e ∷ mine es session) (mine es session))) ≡ cond b (made_count (made_by e.kind))
      0 + made_at es session
  go true = made_more (made_by e.kind) (calls_along (mine es session))
  go false = omega arith

abbrev IsNone : List Entry → Type 0
IsNone [] = Unit {0}
IsNone (e ∷ es) = ⊥

all_counted : (es : List Entry) → ((session : ℕ) → 8 ≤ session → IsNone (mine es session))
    → length (calls_along es) ≤ sum_over (made_at es) 0 8
all_counted [] others = omega arith
all_counted (e ∷ es) others =
    let rest = all_counted es (λ session high. none_left (eqb e.session session) session (others session high)) in
    let here = made_more (made_by e.kind) (calls_along es) in
    let sums =
    sum_more (made_at (e ∷ es)) (at_session e.session (made_count (made_by e.kind))) (made_at es) 0 8 (made_at_more e es) in
    let one = one_counts e.session (made_count (made_by e.kind)) 0 8 (omega arith) (low (ltb e.session 8) refl) in
    omega (arith, rest, here, sums, one) where
      none_left : (b : Bool) (session : ℕ) → IsNone (cond b (e ∷ mine es session) (mine es session)) → IsNone (mine es session)
      none_left true session none = absurd none
      none_left false session none = none

      low : (b : Bool) → ltb e.session 8 ≡ b → e.session < 0 + 8
      low true is = ltb-true e.session 8 is
      low false is =
          let high : 8 ≤ e.session = ltb-false e.session 8 is in
          absurd (subst (λ (b : Bool). IsNone (cond b (e ∷ mine es e.session) (mine es e.session)))
          (eq-eqb e.session e.session refl) (others e.session high))

pub calls_are : (lines : List Line) → calls_of lines ≡ filter is_call lines
calls_are [] = refl
calls_are (call c ∷ lines) = ap (λ rest. call c ∷ rest) (calls_are lines)
calls_are (save ∷ lines) = ap (λ rest. save ∷ rest) (calls_are lines)
calls_are (forget slot ∷ lines) = calls_are lines

abbrev pub calls_at : List (List Line) → (session : ℕ) → ℕ
calls_at lists session = length (calls_of (list_at lists session))

lists_counted : (lists : List (List Line)) (n : ℕ) → sum_over (calls_at lists) 0 n ≤ count_calls lists
lists_counted [] n = let none = sum_none (calls_at []) 0 n (λ session. refl) in omega (arith, none)
lists_counted (lines ∷ lists) zero = omega arith
lists_counted (lines ∷ lists) (suc n) =
    let here = ap length (calls_are lines) in
    let shift : sum_over (calls_at (lines ∷ lists)) 1 n ≡ sum_over (calls_at lists) 0 n =
    sum_shift (calls_at (lines ∷ lists)) 0 n in
    let rest = lists_counted lists n in
    omega (arith, here, shift, rest)

-- ---- a whole history

-- entries whose calls are those of a script that fits, with the tables of its filters, are calls
module _ (counts : List ℕ) (lists : List (List Line)) (chests : List (List FilterState)) (es : List Entry)
    (fits : FitsFilters counts lists) (calls : (session : ℕ) → session < 8 → calls_in es session ≡ calls_of (list_at lists session))
    (others : (session : ℕ) → 8 ≤ session → mine es session ≡ [])
    (tables : (session : ℕ) → session < 8 → HaveTables (unwrap_or (slice_get chests session) []) (mine es session)) where
  session_asks : (session : ℕ) → AllByRecursion Asks (mine es session)
  session_asks session = go (ltb session 8) refl where
    go : (b : Bool) → ltb session 8 ≡ b → AllByRecursion Asks (mine es session)
    go true is =
        let low : session < 8 = ltb-true session 8 is in
        asks_each (mine es session) (subst (AllByRecursion IsCallOf) (sym (calls session low))
        (each_calls counts 0 lists session fits.each))
        (have_bytes (unwrap_or (slice_get chests session) []) (mine es session) (tables session low))
    go false is = subst (AllByRecursion Asks) (sym (others session (ltb-false session 8 is))) tt

  pub are_calls : AreCalls es
  are_calls = of_sessions Asks es session_asks

module _ {d : Document} {counts : List ℕ} {lists : List (List Line)} {chests : List (List FilterState)} {out : List ℕ}
    {es : List Entry} (fits : FitsFilters counts lists) (text : IsTextOf out d lists chests es) where
  pub are_few : length es ≤ MAX_ENTRIES
  are_few =
      let run = run_short d (initial d) [] es text.legal.run in
      let all = all_counted es (λ session high. subst IsNone (sym (text.others session high)) tt) in
      let same : sum_over (made_at es) 0 8 ≡ sum_over (calls_at lists) 0 8 =
      sum_same (made_at es) (calls_at lists) 0 8 (λ session low. ap length (text.calls session (omega (arith, low)))) in
      let listed = lists_counted lists 8 in
      let few = fits.few in
      omega (arith, run, all, same, listed, few)

pub session_few : (lists : List (List Line)) (session : ℕ) → calls_at lists session ≤ count_calls lists
session_few [] session = omega arith
session_few (lines ∷ lists) zero = let here = ap length (calls_are lines) in omega (arith, here)
session_few (lines ∷ lists) (suc session) = let rest = session_few lists session in omega (arith, rest)
