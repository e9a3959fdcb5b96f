-- The words that are taken one after another, to the last call of each session, are the merges.
use Rattle.std.proofs.Common.{◌≡◌, ℕ, zero, suc, ◌+◌, ◌-◌, ◌<◌, ◌≤◌, Bool, true, false, cond, List, [], ◌∷◌, length, map, refl, ap, sym, ◌∙◌, arith, subst, get_or, eq-eqb, ◌==◌}
use Rattle.std.specs.Prelude.{Option, Some, None, slice_get, is_none, ◌&&◌, not, nat_lt, option_map}
use Rattle.std.specs.Str.{bytes_eq}
use Rattle.std.specs.List.{AllByRecursion}
use Rattle.std.proofs.lemmas.Bool.{eqb-true, ltb-true, lt-ltb}
use Rattle.std.proofs.lemmas.List.{get_or-set_same, get_or-set_other, get_or-replicate}
use Rattle.std.proofs.lemmas.Option.{slice_get-map, slice_get_within, slice_get-get_or}
use Rattle.std.proofs.Math.ListN.{length-set}
use Rattle.spec_document.specs.Rect.{count_from}
use Rattle.spec_script.specs.Words.{◌>>=◌}
use Rattle.spec_script.specs.Script as lines
use Rattle.spec_script.specs.Script.{Line}
use Rattle.spec_text.specs.declared.OrderWord.{OrderWord}
use Rattle.spec_audit.specs.Output.{calls_for, is_save, names_save, StandsBeside, out_after, SavesEnd, call_words, IsMerge}
use Rattle.spec_audit.proofs.Pieces.{and_parts, and_both}
use Rattle.spec_audit.proofs.Cuts.{then_some, some_is, bytes_same}
use Rattle.xl_printed.proofs.Merges.{lengths_at, counted_all}
use Rattle.xl_printed.specs.Merging.{Merging, saves_of, is_start, take_end, out_with, counted, take_call, take_word, take_words, before_all, is_whole, merges}

abbrev N : (scripts : List (List Line)) → (session : ℕ) → ℕ
N scripts session = length (calls_for scripts session)

abbrev next_of : Merging → (session : ℕ) → ℕ
next_of m session = get_or m.nexts session 0

-- ---- the table of saves

get_counted : (f : ℕ → List Bool) (first n i : ℕ) → i < n → get_or (map f (count_from first n)) i [] ≡ f (first + i)
get_counted f first zero i lt = absurd (omega (arith, lt))
get_counted f first (suc n) zero lt = let z : first ≡ first + 0 = omega arith in ap f z
get_counted f first (suc n) (suc i) lt =
    let z : suc first + i ≡ first + suc i = omega arith in get_counted f (suc first) n i (omega (arith, lt)) ∙ ap f z

abbrev saves_in : (scripts : List (List Line)) → (session : ℕ) → List Bool
saves_in scripts session = map (λ (line : Line). is_save (Some line)) (calls_for scripts session)

saves_at : (scripts : List (List Line)) (session : ℕ) → session < 8 → get_or (saves_of scripts) session [] ≡ saves_in scripts session
saves_at scripts session lt =
    let z : 0 + session ≡ session = omega arith in get_counted (saves_in scripts) 0 8 session lt ∙ ap (saves_in scripts) z

save_named : (o : Option Line) (save : Bool) → option_map (λ (line : Line). is_save (Some line)) o ≡ Some save → is_save o ≡ save
save_named None save is = cc
save_named (Some line) save is = some_is (is_save (Some line)) save is

length_saves : (ls : List Line) → length (map (λ (line : Line). is_save (Some line)) ls) ≡ length ls
length_saves [] = refl
length_saves (l ∷ ls) = ap (λ (n : ℕ). suc n) (length_saves ls)

-- whether a call is a save, by the table
record IsCallAt (scripts : List (List Line)) (w : OrderWord) (save : Bool) : Type 0 where
  within : w.index < N scripts w.session
  names : names_save scripts w ≡ save

call_there : (scripts : List (List Line)) (w : OrderWord) (save : Bool) → w.session < 8
    → slice_get (get_or (saves_of scripts) w.session []) w.index ≡ Some save → IsCallAt scripts w save
call_there scripts w save lt is =
    let calls = calls_for scripts w.session in
    let at : slice_get (saves_in scripts w.session) w.index ≡ Some save = ap (λ (xs : List Bool). slice_get xs w.index) (sym (saves_at scripts w.session lt)) ∙ is in
    let mapped = sym (slice_get-map (λ (line : Line). is_save (Some line)) calls w.index) ∙ at in
    let long = length_saves calls in
    let within = slice_get_within (saves_in scripts w.session) w.index save at in
    record { within = omega (arith, within, long); names = save_named (slice_get calls w.index) save mapped }

there_call : (scripts : List (List Line)) (w : OrderWord) → w.session < 8 → w.index < N scripts w.session
    → slice_get (get_or (saves_of scripts) w.session []) w.index ≡ Some (names_save scripts w)
there_call scripts w lt within =
    let calls = calls_for scripts w.session in
    ap (λ (xs : List Bool). slice_get xs w.index) (saves_at scripts w.session lt)
    ∙ slice_get-map (λ (line : Line). is_save (Some line)) calls w.index ∙ by (slice_get calls w.index) (slice_get-get_or calls w.index (get_or calls w.index lines.save) within)
  where
    by : (o : Option Line) → o ≡ Some (get_or (calls_for scripts w.session) w.index (get_or (calls_for scripts w.session) w.index lines.save))
        → option_map (λ (line : Line). is_save (Some line)) o ≡ Some (is_save o)
    by None is = cc
    by (Some line) is = refl

-- ---- one word

record IsEndTaken (m : Merging) (w : OrderWord) (n : Merging) : Type 0 where
  beside : StandsBeside m.out w true true
  is : n ≡ record { nexts = m.nexts; out = None }

record IsCallTaken (scripts : List (List Line)) (m : Merging) (w : OrderWord) (n : Merging) : Type 0 where
  next : next_of m w.session ≡ w.index
  within : w.index < N scripts w.session
  beside : StandsBeside m.out w false (names_save scripts w)
  is : n ≡ counted m w (out_after m.out w false (names_save scripts w))

end_taken : (m : Merging) (w : OrderWord) (n : Merging) → take_end m w ≡ Some n → IsEndTaken m w n
end_taken m w n taken = by m.out taken where
  chosen : (b : Bool) (start : OrderWord) → (start.session == w.session && start.index == w.index) ≡ b
      → (let closed : Merging = record { nexts = m.nexts; out = None } in cond b (Some closed) None) ≡ Some n
      → StandsBeside (Some start) w true true × (n ≡ record { nexts = m.nexts; out = None })
  chosen true start is taken =
      let parts = and_parts (start.session == w.session) (start.index == w.index) is in
      let closed : Merging = record { nexts = m.nexts; out = None } in
      ((sym (eqb-true start.session w.session parts.0), sym (eqb-true start.index w.index parts.1)), sym (some_is closed n taken))
  chosen false start is taken = cc

  by : (out : Option OrderWord) → (let closed : Merging = record { nexts = m.nexts; out = None } in cond (is_start out w) (Some closed) None) ≡ Some n
      → IsEndTaken (record { nexts = m.nexts; out = out }) w n
  by None taken = cc
  by (Some start) taken =
      let c = chosen (start.session == w.session && start.index == w.index) start refl taken in record { beside = c.0; is = c.1 }

out_taken : (out next : Option OrderWord) (w : OrderWord) (save : Bool) → out_with out w save ≡ Some next
    → StandsBeside out w false save × (next ≡ out_after out w false save)
out_taken None next w false taken = (tt, sym (some_is None next taken))
out_taken (Some start) next w false taken = let s : Option OrderWord = Some start in (tt, sym (some_is s next taken))
out_taken None next w true taken = let s : Option OrderWord = Some w in (tt, sym (some_is s next taken))
out_taken (Some start) next w true taken = cc

call_taken : (scripts : List (List Line)) (m : Merging) (w : OrderWord) (n : Merging) → w.session < 8 → take_call (saves_of scripts) m w ≡ Some n
    → IsCallTaken scripts m w n
call_taken scripts m w n lt taken = by (next_of m w.session == w.index) refl taken where
  by : (b : Bool) → (next_of m w.session == w.index) ≡ b
      → cond b (slice_get (get_or (saves_of scripts) w.session []) w.index >>= λ save. out_with m.out w save >>= λ out. Some (counted m w out)) None ≡ Some n
      → IsCallTaken scripts m w n
  by true is taken =
      let a = then_some (slice_get (get_or (saves_of scripts) w.session []) w.index) (λ save. out_with m.out w save >>= λ out. Some (counted m w out)) n taken in
      let b = then_some (out_with m.out w a.value) (λ out. Some (counted m w out)) n a.rest in
      let at = call_there scripts w a.value lt a.is in
      let o = out_taken m.out b.value w a.value b.is in
      let P : Bool → Type 0 = λ s. StandsBeside m.out w false s × (b.value ≡ out_after m.out w false s) in
      let named = subst P (sym at.names) o in
      record {
        next = eqb-true (next_of m w.session) w.index is;
        within = at.within;
        beside = named.0;
        is = sym (some_is (counted m w b.value) n b.rest) ∙ ap (counted m w) named.1;
      }
  by false is taken = cc

-- ---- what is left of a merge

record IsLeft (scripts : List (List Line)) (m : Merging) (ws : List OrderWord) : Type 0 where
  sessions : AllByRecursion (λ w. w.session < 8) ws
  within : (session : ℕ) → session < 8 → next_of m session ≤ N scripts session
  calls : (session : ℕ) → session < 8
      → map (λ w. w.index) (call_words ws session) ≡ count_from (next_of m session) (N scripts session - next_of m session)
  saves : SavesEnd scripts m.out ws

by_end : (out : Option OrderWord) (w : OrderWord) (a b : Bool) → StandsBeside out w true a → StandsBeside out w true b
by_end None w a b is = is
by_end (Some start) w a b is = is

call_other : (w : OrderWord) (ws : List OrderWord) (session : ℕ) → (w.session == session && not w.end) ≡ false
    → call_words (w ∷ ws) session ≡ call_words ws session
call_other w ws session is = ap (λ (b : Bool). cond b (w ∷ call_words ws session) (call_words ws session)) is

call_first : (w : OrderWord) (ws : List OrderWord) (session : ℕ) → (w.session == session && not w.end) ≡ true
    → call_words (w ∷ ws) session ≡ w ∷ call_words ws session
call_first w ws session is = ap (λ (b : Bool). cond b (w ∷ call_words ws session) (call_words ws session)) is

ended : (b end : Bool) → end ≡ true → (b && not end) ≡ false
ended true end is = ap not is
ended false end is = refl

elsewhere : (b end : Bool) → b ≡ false → (b && not end) ≡ false
elsewhere b end is = ap (λ (x : Bool). x && not end) is

here_called : (b end : Bool) → b ≡ true → end ≡ false → (b && not end) ≡ true
here_called b end p q = rw (p, q) refl

abbrev indices_of : List OrderWord → List ℕ
indices_of ws = map (λ (w : OrderWord). w.index) ws

-- ---- an end

end_left : (scripts : List (List Line)) (m n : Merging) (w : OrderWord) (ws : List OrderWord) → w.session < 8 → w.end ≡ true
    → IsEndTaken m w n → IsLeft scripts n ws → IsLeft scripts m (w ∷ ws)
end_left scripts m n w ws lt is taken left =
    let closed : Merging = record { nexts = m.nexts; out = None } in
    let l : IsLeft scripts closed ws = subst (λ (x : Merging). IsLeft scripts x ws) taken.is left in
    let S : Bool → Type 0 = λ e. StandsBeside m.out w e (names_save scripts w)
    × SavesEnd scripts (out_after m.out w e (names_save scripts w)) ws in
    record {
      sessions = (lt, l.sessions);
      within = l.within;
      calls = λ session below. ap indices_of (call_other w ws session (ended (w.session == session) w.end is)) ∙ l.calls session below;
      saves = subst S (sym is) (by_end m.out w true (names_save scripts w) taken.beside, l.saves);
    }

left_end : (scripts : List (List Line)) (m : Merging) (w : OrderWord) (ws : List OrderWord) → w.end ≡ true → IsLeft scripts m (w ∷ ws)
    → (take_end m w ≡ Some (record { nexts = m.nexts; out = None })) × IsLeft scripts (record { nexts = m.nexts; out = None }) ws
left_end scripts m w ws is left =
    let S : Bool → Type 0 = λ e. StandsBeside m.out w e (names_save scripts w)
    × SavesEnd scripts (out_after m.out w e (names_save scripts w)) ws in
    let s = subst S is left.saves in (
      by m.out s.0,
      record {
        sessions = left.sessions.1;
        within = left.within;
        calls = λ session below. sym (ap indices_of (call_other w ws session (ended (w.session == session) w.end is))) ∙ left.calls session below;
        saves = s.1;
      },
    )
  where
    by : (out : Option OrderWord) → StandsBeside out w true (names_save scripts w)
        → take_end (record { nexts = m.nexts; out = out }) w ≡ Some (record { nexts = m.nexts; out = None })
    by None beside = absurd beside
    by (Some start) beside =
        let closed : Merging = record { nexts = m.nexts; out = None } in
        ap (λ (b : Bool). cond b (Some closed) None)
        (and_both (start.session == w.session) (start.index == w.index) (eq-eqb start.session w.session (sym beside.0))
        (eq-eqb start.index w.index (sym beside.1)))

-- ---- a call

other_session : (a b : ℕ) → (a == b) ≡ false → b ≡ a → ⊥
other_session a b is same = let t = eq-eqb a b (sym same) in let bad : true ≡ false = sym t ∙ is in cc

next_here : (m : Merging) (w : OrderWord) (out : Option OrderWord) → length m.nexts ≡ 8 → w.session < 8
    → next_of (counted m w out) w.session ≡ w.index + 1
next_here m w out long lt = get_or-set_same m.nexts w.session (w.index + 1) 0 (omega (arith, long, lt))

next_there : (m : Merging) (w : OrderWord) (out : Option OrderWord) (session : ℕ) → (w.session == session) ≡ false
    → next_of (counted m w out) session ≡ next_of m session
next_there m w out session is = get_or-set_other m.nexts w.session session (w.index + 1) 0 (other_session w.session session is)

one_less : (n i : ℕ) → i < n → n - i ≡ suc (n - (i + 1))
one_less n i lt = omega (arith, lt)

count_step : (n i : ℕ) → i < n → count_from i (n - i) ≡ i ∷ count_from (i + 1) (n - (i + 1))
count_step n i lt =
    let s : suc i ≡ i + 1 = omega arith in
    ap (count_from i) (one_less n i lt) ∙ ap (λ (k : ℕ). i ∷ count_from k (n - (i + 1))) s

call_left : (scripts : List (List Line)) (m n : Merging) (w : OrderWord) (ws : List OrderWord) → length m.nexts ≡ 8 → w.session < 8
    → w.end ≡ false → IsCallTaken scripts m w n → IsLeft scripts n ws → IsLeft scripts m (w ∷ ws)
call_left scripts m n w ws long lt is taken left =
    let out = out_after m.out w false (names_save scripts w) in
    let l : IsLeft scripts (counted m w out) ws = subst (λ (x : Merging). IsLeft scripts x ws) taken.is left in
    let S : Bool → Type 0 = λ e. StandsBeside m.out w e (names_save scripts w)
    × SavesEnd scripts (out_after m.out w e (names_save scripts w)) ws in
    record {
      sessions = (lt, l.sessions);
      within = λ session below. within_by session below (w.session == session) refl l;
      calls = λ session below. calls_by session below (w.session == session) refl l;
      saves = subst S (sym is) (taken.beside, l.saves);
    }
  where
    within_by : (session : ℕ) → session < 8 → (b : Bool) → (w.session == session) ≡ b
        → IsLeft scripts (counted m w (out_after m.out w false (names_save scripts w))) ws → next_of m session ≤ N scripts session
    within_by session below true same l =
        let e = eqb-true w.session session same in
        let P : ℕ → Type 0 = λ k. next_of m k ≤ N scripts k in
        let i = taken.next in
        let in_range = taken.within in
        subst P e (omega (arith, i, in_range))
    within_by session below false same l =
        let w_in = l.within session below in
        let s = next_there m w (out_after m.out w false (names_save scripts w)) session same in
        omega (arith, w_in, s)

    calls_by : (session : ℕ) → session < 8 → (b : Bool) → (w.session == session) ≡ b
        → IsLeft scripts (counted m w (out_after m.out w false (names_save scripts w))) ws
        → indices_of (call_words (w ∷ ws) session) ≡ count_from (next_of m session) (N scripts session - next_of m session)
    calls_by session below true same l =
        let out = out_after m.out w false (names_save scripts w) in
        let e = eqb-true w.session session same in
        let P : ℕ → Type 0 = λ k. indices_of (call_words (w ∷ ws) k) ≡ count_from (next_of m k) (N scripts k - next_of m k) in
        subst P e (ap indices_of (call_first w ws w.session (here_called (w.session == w.session) w.end (eq-eqb w.session w.session refl) is))
        ∙ ap (λ (ks : List ℕ). w.index ∷ ks) (l.calls w.session lt
        ∙ ap (λ (k : ℕ). count_from k (N scripts w.session - k)) (next_here m w out long lt))
        ∙ sym (count_step (N scripts w.session) w.index taken.within)
        ∙ ap (λ (k : ℕ). count_from k (N scripts w.session - k)) (sym taken.next))
    calls_by session below false same l =
        let out = out_after m.out w false (names_save scripts w) in
        ap indices_of (call_other w ws session (elsewhere (w.session == session) w.end same)) ∙ l.calls session below
        ∙ ap (λ (k : ℕ). count_from k (N scripts session - k)) (next_there m w out session same)

record IsFirstCall (n first : ℕ) (index : ℕ) (rest : List ℕ) : Type 0 where
  same : first ≡ index
  within : first < n
  rest_is : rest ≡ count_from (index + 1) (n - (index + 1))

heads_of : ℕ → List ℕ → ℕ
heads_of d [] = d
heads_of d (k ∷ ks) = k

tails_of : List ℕ → List ℕ
tails_of [] = []
tails_of (k ∷ ks) = ks

first_call : (n first index : ℕ) (rest : List ℕ) (k : ℕ) → n - first ≡ k → index ∷ rest ≡ count_from first k → IsFirstCall n first index rest
unfolding heads_of tails_of
first_call n first index rest zero is same = cc
first_call n first index rest (suc k) is same =
    let i : index ≡ first = ap (heads_of 0) same in
    let a : suc first ≡ index + 1 = omega (arith, i) in
    let b : k ≡ n - (index + 1) = omega (arith, i, is) in
    record { same = sym i; within = omega (arith, is); rest_is = ap tails_of same ∙ (λ j. count_from (a j) (b j)) }

out_there : (out : Option OrderWord) (w : OrderWord) (save : Bool) → StandsBeside out w false save
    → out_with out w save ≡ Some (out_after out w false save)
out_there None w true beside = refl
out_there (Some start) w true beside = absurd beside
out_there None w false beside = refl
out_there (Some start) w false beside = refl

left_call : (scripts : List (List Line)) (m : Merging) (w : OrderWord) (ws : List OrderWord) → length m.nexts ≡ 8 → w.end ≡ false
    → IsLeft scripts m (w ∷ ws)
    → (take_call (saves_of scripts) m w ≡ Some (counted m w (out_after m.out w false (names_save scripts w))))
    × IsLeft scripts (counted m w (out_after m.out w false (names_save scripts w))) ws
left_call scripts m w ws long is left =
    let lt = left.sessions.0 in
    let out = out_after m.out w false (names_save scripts w) in
    let S : Bool → Type 0 = λ e. StandsBeside m.out w e (names_save scripts w)
    × SavesEnd scripts (out_after m.out w e (names_save scripts w)) ws in
    let s = subst S is left.saves in
    let first = first_call (N scripts w.session) (next_of m w.session) w.index (indices_of (call_words ws w.session))
    (N scripts w.session - next_of m w.session) refl
    (sym (ap indices_of (call_first w ws w.session (here_called (w.session == w.session) w.end (eq-eqb w.session w.session refl) is)))
    ∙ left.calls w.session lt) in
    let in_range : w.index < N scripts w.session = let a = first.same in let b = first.within in omega (arith, a, b) in
    let there : Option Merging =
    slice_get (get_or (saves_of scripts) w.session []) w.index >>= λ save. out_with m.out w save >>= λ o. Some (counted m w o) in
    let none : Option Merging = None in (
      ap (λ (b : Bool). cond b there none) (eq-eqb (next_of m w.session) w.index first.same)
          ∙ ap (λ (o : Option Bool). o >>= λ save. out_with m.out w save >>= λ x. Some (counted m w x)) (there_call scripts w lt in_range)
          ∙ ap (λ (o : Option (Option OrderWord)). o >>= λ x. Some (counted m w x)) (out_there m.out w (names_save scripts w) s.0),
      record {
        sessions = left.sessions.1;
        within = λ session below. within_by session below (w.session == session) refl in_range;
        calls = λ session below. calls_by session below (w.session == session) refl first;
        saves = s.1;
      },
    )
  where
    within_by : (session : ℕ) → session < 8 → (b : Bool) → (w.session == session) ≡ b → w.index < N scripts w.session
        → next_of (counted m w (out_after m.out w false (names_save scripts w))) session ≤ N scripts session
    within_by session below true same in_range =
        let e = eqb-true w.session session same in
        let P : ℕ → Type 0 = λ k. next_of (counted m w (out_after m.out w false (names_save scripts w))) k ≤ N scripts k in
        let h = next_here m w (out_after m.out w false (names_save scripts w)) long left.sessions.0 in
        subst P e (omega (arith, h, in_range))
    within_by session below false same in_range =
        let w_in = left.within session below in
        let t = next_there m w (out_after m.out w false (names_save scripts w)) session same in
        omega (arith, w_in, t)

    calls_by : (session : ℕ) → session < 8 → (b : Bool) → (w.session == session) ≡ b
        → IsFirstCall (N scripts w.session) (next_of m w.session) w.index (indices_of (call_words ws w.session))
        → indices_of (call_words ws session)
        ≡ count_from (next_of (counted m w (out_after m.out w false (names_save scripts w))) session)
        (N scripts session - next_of (counted m w (out_after m.out w false (names_save scripts w))) session)
    calls_by session below true same first =
        let out = out_after m.out w false (names_save scripts w) in
        let e = eqb-true w.session session same in
        let P : ℕ → Type 0 = λ k. indices_of (call_words ws k) ≡ count_from (next_of (counted m w out) k) (N scripts k - next_of (counted m w out) k) in
        subst P e (first.rest_is ∙ ap (λ (k : ℕ). count_from k (N scripts w.session - k)) (sym (next_here m w out long left.sessions.0)))
    calls_by session below false same first =
        let out = out_after m.out w false (names_save scripts w) in
        sym (ap indices_of (call_other w ws session (elsewhere (w.session == session) w.end same))) ∙ left.calls session below
        ∙ ap (λ (k : ℕ). count_from k (N scripts session - k)) (sym (next_there m w out session same))

-- ---- all words

whole_then : (saves : List (List Bool)) (o : Option Merging) (f : Merging → Option Merging) → is_whole saves (o >>= f) ≡ true
    → (n : Merging) × (o ≡ Some n) × (is_whole saves (f n) ≡ true)
whole_then saves None f is = let bad : false ≡ true = is in cc
whole_then saves (Some n) f is = (n, refl, is)

long_end : (m n : Merging) (w : OrderWord) → IsEndTaken m w n → length m.nexts ≡ 8 → length n.nexts ≡ 8
long_end m n w taken long = ap (λ (x : Merging). length x.nexts) taken.is ∙ long

long_counted : (m : Merging) (w : OrderWord) (out : Option OrderWord) → length m.nexts ≡ 8 → length (counted m w out).nexts ≡ 8
long_counted m w out long = length-set m.nexts w.session (w.index + 1) ∙ long

-- no save is out, and each number is that of the session's calls
whole_left : (scripts : List (List Line)) (m : Merging) → length m.nexts ≡ 8 → is_whole (saves_of scripts) (Some m) ≡ true → IsLeft scripts m []
whole_left scripts m long is =
    let parts = and_parts (is_none m.out) (bytes_eq m.nexts (map length (saves_of scripts))) is in
    let same = bytes_same m.nexts (map length (saves_of scripts)) parts.1 in
    let at : (session : ℕ) → session < 8 → next_of m session ≡ N scripts session = λ session lt.
    ap (λ (ns : List ℕ). get_or ns session 0) same ∙ lengths_are session lt in
    record {
      sessions = tt;
      within = λ session lt. let a = at session lt in omega (arith, a);
      calls = λ session lt. let z : 0 ≡ N scripts session - next_of m session = let a = at session lt in omega (arith, a) in
          ap (count_from (next_of m session)) z;
      saves = none_is m.out parts.0;
    }
  where
    none_is : (out : Option OrderWord) → is_none out ≡ true → out ≡ None
    none_is None is = refl
    none_is (Some w) is = let bad : false ≡ true = is in cc

    lengths_are : (session : ℕ) → session < 8 → get_or (map length (saves_of scripts)) session 0 ≡ N scripts session
    lengths_are session lt =
        lengths_at (saves_of scripts) session lt ∙ (ap length (saves_at scripts session lt) ∙ length_saves (calls_for scripts session))

left_whole : (scripts : List (List Line)) (m : Merging) → length m.nexts ≡ 8 → IsLeft scripts m [] → is_whole (saves_of scripts) (Some m) ≡ true
left_whole scripts m long left =
    and_both (is_none m.out) (bytes_eq m.nexts (map length (saves_of scripts))) (ap is_none left.saves)
    (counted_all m.nexts (saves_of scripts) 8 (record { same = λ k lt. at k lt }) long refl (omega arith))
  where
    none_left : (n k : ℕ) → [] ≡ count_from n k → k ≡ 0
    none_left n zero is = refl
    none_left n (suc k) is = cc

    at : (k : ℕ) → k < 8 → get_or m.nexts k 0 ≡ length (get_or (saves_of scripts) k [])
    at k lt =
        let z = none_left (next_of m k) (N scripts k - next_of m k) (left.calls k lt) in
        let w = left.within k lt in
        let e : next_of m k ≡ N scripts k = omega (arith, z, w) in
        e ∙ sym (ap length (saves_at scripts k lt) ∙ length_saves (calls_for scripts k))

word_split : (lt end : Bool) (x y : Option Merging) (n : Merging) → cond lt (cond end x y) None ≡ Some n
    → (lt ≡ true) × (cond end x y ≡ Some n)
word_split true end x y n is = (refl, is)
word_split false end x y n is = cc

taken_left : (scripts : List (List Line)) (m : Merging) (ws : List OrderWord) → length m.nexts ≡ 8
    → is_whole (saves_of scripts) (take_words (saves_of scripts) m ws) ≡ true → IsLeft scripts m ws
taken_left scripts m [] long is = whole_left scripts m long is
taken_left scripts m (w ∷ ws) long is =
    let t = whole_then (saves_of scripts) (take_word (saves_of scripts) m w) (λ n. take_words (saves_of scripts) n ws) is in
    let s = word_split (nat_lt w.session 8) w.end (take_end m w) (take_call (saves_of scripts) m w) t.0 t.1 in
    by w.end refl s.1 (ltb-true w.session 8 s.0) (λ long_n. taken_left scripts t.0 ws long_n t.2)
  where
    by : (end : Bool) → w.end ≡ end → cond end (take_end m w) (take_call (saves_of scripts) m w) ≡ Some (whole_then (saves_of scripts)
        (take_word (saves_of scripts) m w) (λ n. take_words (saves_of scripts) n ws) is).0 → w.session < 8
        → (length (whole_then (saves_of scripts) (take_word (saves_of scripts) m w) (λ n. take_words (saves_of scripts) n ws) is).0.nexts ≡ 8
        → IsLeft scripts (whole_then (saves_of scripts) (take_word (saves_of scripts) m w) (λ n. take_words (saves_of scripts) n ws) is).0 ws)
        → IsLeft scripts m (w ∷ ws)
    by true e taken lt rest =
        let n = (whole_then (saves_of scripts) (take_word (saves_of scripts) m w) (λ n. take_words (saves_of scripts) n ws) is).0 in
        let end = end_taken m w n taken in
        end_left scripts m n w ws lt e end (rest (long_end m n w end long))
    by false e taken lt rest =
        let n = (whole_then (saves_of scripts) (take_word (saves_of scripts) m w) (λ n. take_words (saves_of scripts) n ws) is).0 in
        let call = call_taken scripts m w n lt taken in
        let long_n = ap (λ (x : Merging). length x.nexts) call.is ∙ long_counted m w (out_after m.out w false (names_save scripts w)) long in
        call_left scripts m n w ws long lt e call (rest long_n)

left_taken : (scripts : List (List Line)) (m : Merging) (ws : List OrderWord) → length m.nexts ≡ 8 → IsLeft scripts m ws
    → is_whole (saves_of scripts) (take_words (saves_of scripts) m ws) ≡ true
left_taken scripts m [] long left = left_whole scripts m long left
left_taken scripts m (w ∷ ws) long left =
    by w.end refl (left_taken scripts (record { nexts = m.nexts; out = None }) ws long)
    (left_taken scripts (counted m w (out_after m.out w false (names_save scripts w))) ws
    (long_counted m w (out_after m.out w false (names_save scripts w)) long))
  where
    taken_as : (end : Bool) (n : Merging) → w.end ≡ end → cond end (take_end m w) (take_call (saves_of scripts) m w) ≡ Some n
        → is_whole (saves_of scripts) (take_words (saves_of scripts) n ws) ≡ true
        → is_whole (saves_of scripts) (take_words (saves_of scripts) m (w ∷ ws)) ≡ true
    taken_as end n e taken rest =
        let none : Option Merging = None in
        let word : take_word (saves_of scripts) m w ≡ Some n =
        ap (λ (b : Bool). cond b (cond w.end (take_end m w) (take_call (saves_of scripts) m w)) none) (lt-ltb w.session 8 left.sessions.0)
        ∙ ap (λ (b : Bool). cond b (take_end m w) (take_call (saves_of scripts) m w)) e ∙ taken in
        ap (λ (o : Option Merging). is_whole (saves_of scripts) (o >>= λ x. take_words (saves_of scripts) x ws)) word ∙ rest

    by : (end : Bool) → w.end ≡ end
        → (IsLeft scripts (record { nexts = m.nexts; out = None }) ws
        → is_whole (saves_of scripts) (take_words (saves_of scripts) (record { nexts = m.nexts; out = None }) ws) ≡ true)
        → (IsLeft scripts (counted m w (out_after m.out w false (names_save scripts w))) ws
        → is_whole (saves_of scripts) (take_words (saves_of scripts) (counted m w (out_after m.out w false (names_save scripts w))) ws) ≡ true)
        → is_whole (saves_of scripts) (take_words (saves_of scripts) m (w ∷ ws)) ≡ true
    by true e ended_rest called_rest =
        let t = left_end scripts m w ws e left in
        taken_as true (record { nexts = m.nexts; out = None }) e t.0 (ended_rest t.1)
    by false e ended_rest called_rest =
        let t = left_call scripts m w ws long e left in
        taken_as false (counted m w (out_after m.out w false (names_save scripts w))) e t.0 (called_rest t.1)

-- ---- whole orders

none_yet : (session : ℕ) → session < 8 → next_of before_all session ≡ 0
none_yet session lt = get_or-replicate 8 session 0 0 lt

pub merges_true : (scripts : List (List Line)) (ws : List OrderWord) → merges (saves_of scripts) ws ≡ true → IsMerge scripts ws
merges_true scripts ws is =
    let left = taken_left scripts before_all ws refl is in
    record {
      sessions = left.sessions;
      calls = λ session lt.
          let z = none_yet session lt in
          left.calls session lt ∙ ap (λ (k : ℕ). count_from k (N scripts session - k)) z
          ∙ (let n : N scripts session - 0 ≡ N scripts session = omega arith in ap (count_from 0) n);
      saves = left.saves;
    }

pub merges_all : (scripts : List (List Line)) (ws : List OrderWord) → IsMerge scripts ws → merges (saves_of scripts) ws ≡ true
merges_all scripts ws merge =
    left_taken scripts before_all ws refl (record {
      sessions = merge.sessions;
      within = λ session lt. let z = none_yet session lt in omega (arith, z);
      calls = λ session lt.
          let z = none_yet session lt in
          let n : N scripts session ≡ N scripts session - 0 = omega arith in
          merge.calls session lt ∙ ap (count_from 0) n ∙ ap (λ (k : ℕ). count_from k (N scripts session - k)) (sym z);
      saves = merge.saves;
    })
