-- What stands before the first line of a talk.
use Rattle.std.proofs.Common.{◌≡◌, ℕ, zero, suc, ◌<◌, List, [], ◌∷◌, length, map, drop, ◌++◌, ◌+◌, refl, sym, ap, ◌∙◌, subst, arith, length-append, replicate}
use Rattle.std.specs.Prelude.{Option, Some, None, Vec, slice_get, slice_index, slice_index_or, unwrap_or}
use Rattle.std.specs.declared.alloc.Global.{Global}
use Rattle.std.proofs.lemmas.List.{length-map}
use Rattle.spec_filters.specs.declared.FilterState.{FilterState}
use Rattle.spec_history.specs.History.{Entry}
use Rattle.spec_script.specs.Script.{list_at, Session, blank}
use Rattle.spec_serve.specs.Hearing.{Hearing, start_hearing}
use Rattle.spec_tables.specs.Agrees.{Agrees}
use Rattle.xl_history.specs.History.{History}
use Rattle.xl_filters.specs.Chests.{states_of}
use Rattle.xl_run.specs.Filters.{boxes_at}
use Rattle.xl_run.proofs.Boxes.{full_agrees, full_has_all, full_states, first_left, states_at}
use Rattle.xl_run.proofs.Chests.{all_stocked}
use Rattle.xl_serve.specs.Serving.{now_of, Stands}
use Rattle.xl_serve.specs.Standing.{seat_of, IsSeated, session_at, HasFilters, IsHearing}
use Rattle.xl_serve.proofs.Heard.{start_at, start_heard}
use Rattle.xl_serve.proofs.Seats.{seated_none}
use Rattle.xl_window.specs.Viewing as viewing

count_is : (filters : List (List FilterState)) (session : ℕ)
    → unwrap_or (slice_get (map length filters) session) 0 ≡ length (list_at filters session)
count_is [] session = refl
count_is (f ∷ filters) zero = refl
count_is (f ∷ filters) (suc session) = count_is filters session

-- ---- the desks

drop_more : {A : Type 0} (xs : List A) (n : ℕ) → drop 1 (drop n xs) ≡ drop (suc n) xs
drop_more xs zero = refl
drop_more [] (suc n) = refl
drop_more (x ∷ xs) (suc n) = drop_more xs n

pub one_less : {A : Type 0} (all left more : List A) (n m : ℕ) → left ≡ drop n all → more ≡ drop 1 left → m ≡ suc n → more ≡ drop m all
one_less all left more n m left_is is next =
    is ∙ ap (drop 1) left_is ∙ drop_more all n ∙ ap (λ (k : ℕ). drop k all) (sym next)

-- the filters of a session, as those of the sessions before it were taken
pub desk_chest : {B : Type 0} (state : B → FilterState) (all left : List (Vec B Global)) (n : ℕ) (items : List B)
    (chest : List (Option FilterState)) → left ≡ drop n all → items ≡ boxes_at left 0 → chest ≡ map (λ b. Some (state b)) items
    → chest ≡ map (λ x. Some x) (list_at (states_of state all) n)
desk_chest state all left n items chest left_is is chest_is =
    chest_is ∙ full_states state items
    ∙ ap (λ own. map (λ x. Some x) (map state own)) (is ∙ ap (λ l. boxes_at l 0) left_is ∙ first_left all n)
    ∙ ap (map (λ x. Some x)) (sym (states_at state all n))

-- a desk more
full_more : {D : Type 0} (f : D → List (Option FilterState)) (want : ℕ → List (Option FilterState)) (ds : List D) (d : D)
    → ((s : ℕ) → s < length ds → slice_index_or (map f ds) s [] ≡ want s) → f d ≡ want (length ds) → (s : ℕ) → s < 1 + length ds
    → slice_index_or (map f (ds ++ d ∷ [])) s [] ≡ want s
full_more f want [] d up last zero lt = last
full_more f want [] d up last (suc s) lt = absurd (omega (arith, lt))
full_more f want (x ∷ ds) d up last zero lt = up zero (omega arith)
full_more f want (x ∷ ds) d up last (suc s) lt =
    full_more f (λ n. want (suc n)) ds d (λ n below. up (suc n) (omega (arith, below))) last s (omega (arith, lt))

pub full_none : {D : Type 0} (f : D → List (Option FilterState)) (want : ℕ → List (Option FilterState)) (ds : List D) → ds ≡ []
    → (s : ℕ) → s < length ds → slice_index_or (map f ds) s [] ≡ want s
full_none f want ds none s lt = let short = ap length none in absurd (omega (arith, short, lt))

pub full_push : {D : Type 0} (f : D → List (Option FilterState)) (want : ℕ → List (Option FilterState)) (ds more : List D) (d : D) (n : ℕ)
    → more ≡ ds ++ d ∷ [] → length ds ≡ n → ((s : ℕ) → s < length ds → slice_index_or (map f ds) s [] ≡ want s) → f d ≡ want n
    → (s : ℕ) → s < length more → slice_index_or (map f more) s [] ≡ want s
full_push f want ds more d n is count up last s lt =
    let long = ap length is ∙ length-append ds (d ∷ []) in
    ap (λ l. slice_index_or (map f l) s []) is
    ∙ full_more f want ds d up (last ∙ sym (ap want count)) s (omega (arith, long, lt))

-- ---- the talk of no line

-- no session has seen a version
none_seen : (n s : ℕ) → slice_index (replicate n 0) s ≡ 0
none_seen zero s = refl
none_seen (suc n) zero = refl
none_seen (suc n) (suc s) = none_seen n s

pub stands_none : (filters : List (List FilterState)) (history : History) (hearing : Hearing) (chests : List (List (Option FilterState)))
    (viewed : Option History) → history.entries ≡ [] → hearing ≡ start_hearing (map length filters) → length chests ≡ 8
    → ((s : ℕ) → s < 8 → slice_index_or chests s [] ≡ map (λ x. Some x) (list_at filters s)) → viewed ≡ None
    → Stands history.base filters [] [] (now_of history hearing (replicate 8 0) chests viewed)
stands_none filters history hearing chests viewed fresh heard eight full none =
    let counts = map length filters in
    record {
      base_is = refl;
      entries = fresh;
      said = tt;
      turn = tt;
      heard = heard;
      hearing_is = subst IsHearing (sym heard) (start_heard counts);
      seated = λ session lt.
          let own = list_at filters session in
          let seat = seat_of (slice_index (replicate 8 0) session) (slice_index_or chests session []) in
          subst (λ (es : List Entry). IsSeated own es session seat) (sym fresh)
          (seated_none own session seat (none_seen 8 session)
          (subst (λ chest. Agrees chest own) (sym (full session lt)) (full_agrees own)));
      has = λ session lt.
          let own = list_at filters session in
          let at : session_at hearing session ≡ blank (length own) =
          ap (λ (h : Hearing). session_at h session) heard ∙ start_at counts session lt ∙ ap blank (count_is filters session) in
          subst (λ (s : Session). HasFilters s.filters s.dropped (slice_index_or chests session [])) (sym at)
          (subst (HasFilters (length own) []) (sym (full session lt))
          (subst (λ n. HasFilters n [] (map (λ x. Some x) own)) (length-map own (λ x. Some x))
          (all_stocked (map (λ x. Some x) own) (full_has_all own))));
      viewed = subst (λ v. viewing.GoesOn v history) (sym none) tt;
      eight_seen = refl;
      eight_chests = eight;
    }
