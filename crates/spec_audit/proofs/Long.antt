-- How long an order is, and how many entries stand at a place of a walk along it.
use Rattle.std.proofs.Common.{◌≡◌, ℕ, zero, suc, ◌+◌, ◌*◌, ◌<◌, ◌≤◌, Bool, true, false, cond, List, [], ◌∷◌, ◌++◌, length, refl, sym, ◌∙◌}
use Rattle.std.proofs.Common.{ap, arith, map, drop, get_or, inl, inr}
use Rattle.std.specs.Prelude.{◌==◌, ◌&&◌, ◌^◌, not, Option, Some, None}
use Rattle.std.specs.List.{AllByRecursion, cons_option}
use Rattle.spec_document.specs.Rect.{count_from}
use Rattle.std.proofs.lemmas.Bool.Decides.{eqb_tells}
use Rattle.spec_document.specs.Document.{Document}
use Rattle.spec_history.specs.declared.TheConstants.{MAX_ENTRIES}
use Rattle.spec_history.specs.Machine.{State, Saving, initial}
use Rattle.spec_history.specs.History.{Entry, Kind, asked, starts, ends, is_end_kind, MayBe, MayEnd, after_kind, after_entry, replay, replay_from, RunFrom}
use Rattle.spec_history.proofs.Growing.{out-answer}
use Rattle.spec_script.specs.Fits.{FitsFilters, count_calls}
use Rattle.spec_script.specs.Script.{Line, list_at}
use Rattle.spec_text.specs.declared.OrderWord.{OrderWord}
use Rattle.spec_text.specs.Printed.{word_of_entry}
use Rattle.spec_text.specs.Text.{calls_along, calls_of, made_by}
use Rattle.spec_text.proofs.CallsWithin.{calls_are}
use Rattle.spec_world.specs.World.{entries_owed}
use Rattle.spec_audit.specs.Output.{Output, calls_for, call_words, IsMerge}
use Rattle.spec_audit.specs.Walk.{Start}
use Rattle.spec_audit.proofs.Walking.{Walked, walked_run, order_at}

-- ---- a call makes two entries at most, and where a save is out one is owed

ends_once : (out : Option Saving) (e : Entry) → MayEnd out e.session e.index e.reply → entries_owed out ≡ 1
ends_once None e may = absurd may
ends_once (Some out) e may = refl

run_owes : (base : Document) (s : State) (earlier es : List Entry) → RunFrom base s earlier es
    → length es + entries_owed (replay_from base s es).out ≤ 2 * length (calls_along es) + entries_owed s.out
run_owes base s earlier [] run = omega arith
run_owes base s earlier (e ∷ es) run =
    go e.kind run.0 (run_owes base (after_entry base s e) (earlier ++ e ∷ []) es run.1)
  where
    go : (k : Kind) → MayBe base s earlier e k
        → length es + entries_owed (replay_from base (after_entry base s e) es).out ≤ 2 * length (calls_along es) + entries_owed (after_kind base s e k).out
        → length (e ∷ es) + entries_owed (replay_from base (after_entry base s e) es).out
        ≤ 2 * length (cons_option (made_by k) (calls_along es)) + entries_owed s.out
    go (asked c tables) may rest =
        let same : entries_owed (after_kind base s e (asked c tables)).out ≡ entries_owed s.out = ap entries_owed (out-answer base s c tables) in
        omega (arith, rest, same)
    go starts may rest = omega (arith, rest)
    go ends may rest = let once = ends_once s.out e may in omega (arith, rest, once)

-- ---- the words that are no ends

abbrev one_unless : Bool → ℕ
one_unless true = 0
one_unless false = 1

abbrev pub calls_among : List OrderWord → ℕ
calls_among [] = 0
calls_among (w ∷ ws) = one_unless w.end + calls_among ws

made_words : (es : List Entry) → length (calls_along es) ≡ calls_among (map word_of_entry es)
made_words [] = refl
made_words (e ∷ es) = go e.kind (made_words es) where
  go : (k : Kind) → length (calls_along es) ≡ calls_among (map word_of_entry es)
      → length (cons_option (made_by k) (calls_along es)) ≡ one_unless (is_end_kind k) + calls_among (map word_of_entry es)
  go (asked c tables) same = omega (arith, same)
  go starts same = omega (arith, same)
  go ends same = omega (arith, same)

-- those of the sessions below this one
abbrev upto : List OrderWord → (n : ℕ) → ℕ
upto ws zero = 0
upto ws (suc n) = length (call_words ws n) + upto ws n

grown : (b : Bool) (w : OrderWord) (ws : List OrderWord) → length ws ≤ length (cond b (w ∷ ws) ws)
grown true w ws = omega arith
grown false w ws = omega arith

upto_more : (w : OrderWord) (ws : List OrderWord) (n : ℕ) → upto ws n ≤ upto (w ∷ ws) n
upto_more w ws zero = omega arith
upto_more w ws (suc n) =
    let rest = upto_more w ws n in
    let here = grown (w.session == n && not w.end) w (call_words ws n) in
    omega (arith, rest, here)

here_one : (b : Bool) (w : OrderWord) (ws : List OrderWord) → b ≡ true → 1 + length ws ≤ length (cond b (w ∷ ws) ws)
here_one true w ws is = omega arith
here_one false w ws is = cc

upto_one : (w : OrderWord) (ws : List OrderWord) (n : ℕ) → w.end ≡ false → w.session < n → 1 + upto ws n ≤ upto (w ∷ ws) n
upto_one w ws zero no_end lt = absurd (omega (arith, lt))
upto_one w ws (suc n) no_end lt = elim (eqb_tells w.session n) [
  | inl same ↦
      let test : (w.session == n && not w.end) ≡ true = rw (no_end, same.0) refl in
      let here = here_one (w.session == n && not w.end) w (call_words ws n) test in
      let rest = upto_more w ws n in
      omega (arith, here, rest)
  | inr other ↦
      let ne : (w.session ≡ n → ⊥) = other.1 in
      let below : w.session < n = omega (arith, lt, ne) in
      let here = grown (w.session == n && not w.end) w (call_words ws n) in
      let rest = upto_one w ws n no_end below in
      omega (arith, here, rest)
]

among_upto : (ws : List OrderWord) (n : ℕ) → AllByRecursion (λ w. w.session < n) ws → calls_among ws ≤ upto ws n
among_upto [] n all = omega arith
among_upto (w ∷ ws) n all = go w.end refl (among_upto ws n all.1) where
  go : (b : Bool) → w.end ≡ b → calls_among ws ≤ upto ws n → one_unless b + calls_among ws ≤ upto (w ∷ ws) n
  go true is rest = let more = upto_more w ws n in omega (arith, rest, more)
  go false is rest = let more = upto_one w ws n is all.0 in omega (arith, rest, more)

-- ---- the calls of a script

abbrev at_list : List (List Line) → (session : ℕ) → ℕ
at_list lists session = length (calls_of (list_at lists session))

abbrev lists_upto : List (List Line) → (n : ℕ) → ℕ
lists_upto lists zero = 0
lists_upto lists (suc n) = at_list lists n + lists_upto lists n

lists_shift : (lines : List Line) (lists : List (List Line)) (n : ℕ)
    → lists_upto (lines ∷ lists) (suc n) ≡ length (calls_of lines) + lists_upto lists n
lists_shift lines lists zero = refl
lists_shift lines lists (suc n) = let rest = lists_shift lines lists n in omega (arith, rest)

none_listed : (n : ℕ) → lists_upto [] n ≡ 0
none_listed zero = refl
none_listed (suc n) = let rest = none_listed n in omega (arith, rest)

lists_few : (lists : List (List Line)) (n : ℕ) → lists_upto lists n ≤ count_calls lists
lists_few [] n = let none = none_listed n in omega (arith, none)
lists_few (lines ∷ lists) zero = omega arith
lists_few (lines ∷ lists) (suc n) =
    let shift = lists_shift lines lists n in
    let here = ap length (calls_are lines) in
    let rest = lists_few lists n in
    omega (arith, shift, here, rest)

abbrev indices : List OrderWord → List ℕ
indices ws = map (λ (w : OrderWord). w.index) ws

length_indices : (ws : List OrderWord) → length (indices ws) ≡ length ws
length_indices [] = refl
length_indices (w ∷ ws) = ap (λ (n : ℕ). suc n) (length_indices ws)

counted : (first n : ℕ) → length (count_from first n) ≡ n
counted first zero = refl
counted first (suc n) = ap (λ (k : ℕ). suc k) (counted (suc first) n)

upto_lists : (scripts : List (List Line)) (ws : List OrderWord) (n : ℕ) → IsMerge scripts ws → n ≤ 8 → upto ws n ≡ lists_upto scripts n
upto_lists scripts ws zero merge le = refl
upto_lists scripts ws (suc n) merge le =
    let here : length (call_words ws n) ≡ at_list scripts n =
    sym (length_indices (call_words ws n)) ∙ (ap length (merge.calls n (omega (arith, le))) ∙ counted 0 (length (calls_for scripts n))) in
    let rest = upto_lists scripts ws n merge (omega (arith, le)) in
    omega (arith, here, rest)

order_calls : (counts : List ℕ) (scripts : List (List Line)) (ws : List OrderWord) → FitsFilters counts scripts → IsMerge scripts ws
    → calls_among ws ≤ 2 ^ 19
order_calls counts scripts ws fits merge =
    let all = among_upto ws 8 merge.sessions in
    let same = upto_lists scripts ws 8 merge (omega arith) in
    let few = lists_few scripts 8 in
    let most = fits.few in
    omega (arith, all, same, few, most)

-- ---- at a place

among_split : (xs ys : List OrderWord) → calls_among (xs ++ ys) ≡ calls_among xs + calls_among ys
among_split [] ys = omega arith
among_split (x ∷ xs) ys = let rest = among_split xs ys in omega (arith, rest)

-- before a word that is no end there is room for its entry, and for the end that is owed then
pub walked_few : (s : Start) (o : Output) (place : ℕ) (earlier : List Entry) (d : OrderWord) (counts : List ℕ) → FitsFilters counts s.scripts
    → IsMerge s.scripts o.order → Walked s o place earlier → place < length o.order → (get_or o.order place d).end ≡ false
    → length earlier + entries_owed (replay s.base earlier).out + 2 ≤ MAX_ENTRIES
walked_few s o place earlier d counts fits merge walked lt no_end =
    let w = get_or o.order place d in
    let rest = drop (place + 1) o.order in
    let run = run_owes s.base (initial s.base) [] earlier (walked_run s o place earlier walked) in
    let made = made_words earlier in
    let cut = ap calls_among (order_at s o place earlier d walked lt) ∙ among_split (map word_of_entry earlier) (w ∷ rest) in
    let one : one_unless w.end ≡ 1 = ap one_unless no_end in
    let most = order_calls counts s.scripts o.order fits merge in
    omega (arith, run, made, cut, one, most)
