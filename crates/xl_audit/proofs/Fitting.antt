-- The calls of a script that was read find their filters in chests from which none was taken.
use Rattle.std.proofs.Common.{◌≡◌, ℕ, zero, suc, ◌+◌, ◌<◌, true, false, List, [], ◌∷◌, ◌++◌, length, map, refl, ◌∙◌, subst, arith}
use Rattle.std.specs.Prelude.{◌==◌, not, nat_lt, Option, Some, None, slice_get, unwrap_or}
use Rattle.std.specs.List.{AllByRecursion, list_all, list_any}
use Rattle.std.proofs.lemmas.Bool.{ltb-true}
use Rattle.spec_edit.specs.Edit as edits
use Rattle.spec_edit.specs.Edit.{Edit}
use Rattle.spec_filters.specs.Slots.{has_slot}
use Rattle.spec_filters.specs.declared.FilterState.{FilterState}
use Rattle.spec_history.specs.Machine as machine
use Rattle.spec_history.specs.Machine.{Call}
use Rattle.spec_history.specs.Limited.{edits_of}
use Rattle.spec_script.specs.Fits.{AreFit, EachFit, FitsFilters, finds_filters}
use Rattle.spec_script.specs.Script as lines
use Rattle.spec_script.specs.Script.{Line, list_at, finds_filter}
use Rattle.spec_tables.specs.Agrees.{Agrees, AreThere, SameSlots}
use Rattle.spec_tables.proofs.Chests.{same_there}
use Rattle.spec_text.specs.declared.OrderWord.{OrderWord}
use Rattle.spec_text.specs.Text.{calls_of}
use Rattle.spec_audit.specs.Walk.{call_at}
use Rattle.spec_audit.proofs.Pieces.{and_parts}
use Rattle.xl_audit.specs.Auditing.{filters_in, IsFull, FitsChest}

-- ---- chests

abbrev pub HasAll : (n : ℕ) → List (Option FilterState) → Type 0
HasAll n chest = (slot : ℕ) → slot < n → has_slot chest slot ≡ true

full_has_all : (chest : List (Option FilterState)) → IsFull chest → HasAll (length chest) chest
full_has_all [] full slot lt = absurd (omega (arith, lt))
full_has_all (None ∷ chest) full slot lt = let bad : false ≡ true = full in cc
full_has_all (Some f ∷ chest) full zero lt = refl
full_has_all (Some f ∷ chest) full (suc slot) lt = full_has_all chest full slot (omega (arith, lt))

pub full_agrees : (chest : List (Option FilterState)) → IsFull chest → Agrees chest (filters_in chest)
full_agrees [] full = tt
full_agrees (None ∷ chest) full = let bad : false ≡ true = full in cc
full_agrees (Some f ∷ chest) full = (refl, full_agrees chest full)

-- ---- calls

there : (n : ℕ) (dropped : List ℕ) (chest : List (Option FilterState)) (es : List Edit) → HasAll n chest
    → list_all (finds_filter n dropped) es ≡ true → AreThere chest es
there n dropped chest [] all is = tt
there n dropped chest (edits.filter id rect slot ∷ rest) all is =
    let parts = and_parts (finds_filter n dropped (edits.filter id rect slot)) (list_all (finds_filter n dropped) rest) is in
    let below = and_parts (nat_lt slot n) (not (list_any (λ d. d == slot) dropped)) parts.0 in
    (all slot (ltb-true slot n below.0), there n dropped chest rest all parts.1)
there n dropped chest (edit ∷ rest) all is = there n dropped chest rest all is

call_there : (n : ℕ) (dropped : List ℕ) (chest : List (Option FilterState)) (c : Call) → HasAll n chest
    → finds_filters n dropped c ≡ true → AreThere chest (edits_of c)
call_there n dropped chest (machine.edit guard es) all is = there n dropped chest es all is
call_there n dropped chest (machine.undo named) all is = tt
call_there n dropped chest machine.redo all is = tt
call_there n dropped chest (machine.tile stack at) all is = tt
call_there n dropped chest (machine.peek stack at) all is = tt
call_there n dropped chest machine.top all is = tt

fit_calls : (n : ℕ) (dropped : List ℕ) (chest : List (Option FilterState)) (ls : List Line) → HasAll n chest → AreFit n dropped ls
    → AllByRecursion (FitsChest chest) (calls_of ls)
fit_calls n dropped chest [] all fit = tt
fit_calls n dropped chest (lines.call c ∷ ls) all fit =
    ((fit.0.0, call_there n dropped chest c all fit.0.1), fit_calls n dropped chest ls all fit.1)
fit_calls n dropped chest (lines.save ∷ ls) all fit = (tt, fit_calls n dropped chest ls all fit.1)
fit_calls n dropped chest (lines.forget slot ∷ ls) all fit = fit_calls n (dropped ++ slot ∷ []) chest ls all fit.1

each_fit : (counts : List ℕ) (first : ℕ) (lists : List (List Line)) (session : ℕ) → EachFit counts first lists
    → AreFit (unwrap_or (slice_get counts (first + session)) 0) [] (list_at lists session)
each_fit counts first [] session each = tt
each_fit counts first (ls ∷ lists) zero each =
    let z : first ≡ first + 0 = omega arith in
    subst (λ (k : ℕ). AreFit (unwrap_or (slice_get counts k) 0) [] ls) z each.0
each_fit counts first (ls ∷ lists) (suc session) each =
    let z : suc first + session ≡ first + suc session = omega arith in
    subst (λ (k : ℕ). AreFit (unwrap_or (slice_get counts k) 0) [] (list_at lists session)) z (each_fit counts (suc first) lists session each.1)

all_at : {X : Type 0} (P : X → Type 0) (xs : List X) (i : ℕ) (d : X) → AllByRecursion P xs → P d → P (unwrap_or (slice_get xs i) d)
all_at P [] i d all other = other
all_at P (x ∷ xs) zero d all other = all.0
all_at P (x ∷ xs) (suc i) d all other = all_at P xs i d all.1 other

count_at : (chests : List (List (Option FilterState))) (session : ℕ)
    → unwrap_or (slice_get (map length chests) session) 0 ≡ length (unwrap_or (slice_get chests session) [])
count_at [] session = refl
count_at (c ∷ chests) zero = refl
count_at (c ∷ chests) (suc session) = count_at chests session

pub full_at : (chests : List (List (Option FilterState))) (session : ℕ) → AllByRecursion IsFull chests
    → IsFull (unwrap_or (slice_get chests session) [])
full_at chests session full = all_at IsFull chests session [] full refl

-- the call of a word finds its filters in a chest with the slots of the first one
pub word_fits : (scripts : List (List Line)) (chests : List (List (Option FilterState))) (chest : List (Option FilterState)) (w : OrderWord)
    → FitsFilters (map length chests) scripts → AllByRecursion IsFull chests
    → SameSlots (unwrap_or (slice_get chests w.session) []) chest → FitsChest chest (call_at scripts w)
word_fits scripts chests chest w fits full same =
    let first = unwrap_or (slice_get chests w.session) [] in
    let n = unwrap_or (slice_get (map length chests) w.session) 0 in
    let all : HasAll n chest = λ slot lt.
    let count = count_at chests w.session in
    same_there first chest slot same ∙ full_has_all first (full_at chests w.session full) slot (omega (arith, lt, count)) in
    let fit = each_fit (map length chests) 0 scripts w.session fits.each in
    let z : 0 + w.session ≡ w.session = omega arith in
    let fit_here = subst (λ (k : ℕ). AreFit (unwrap_or (slice_get (map length chests) k) 0) [] (list_at scripts w.session)) z fit in
    all_at (FitsChest chest) (calls_of (list_at scripts w.session)) w.index lines.save
    (fit_calls n [] chest (list_at scripts w.session) all fit_here) tt
