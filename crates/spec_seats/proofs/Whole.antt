-- Where each place of a history is that of one of eight sessions, what is picked for a session is all that it made.
use Rattle.std.proofs.Common.{◌≡◌, inl, inr, ℕ, zero, suc, ◌+◌, ◌<◌, ◌≤◌, Bool, true, false, cond, List, [], ◌∷◌}
use Rattle.std.proofs.Common.{length, Some, None, refl, sym, ◌∙◌, ap, subst, arith, lt-ltb, eq-eqb, ne_eqb, true≢false}
use Rattle.std.specs.Prelude.{◌==◌, Option, slice_get, slice_index_or, unwrap_or, filter_map}
use Rattle.std.specs.List.{AllByRecursion}
use Rattle.std.proofs.lemmas.Bool.{cases_lt, eqb-true}
use Rattle.spec_document.specs.Document.{Document}
use Rattle.spec_filters.specs.declared.FilterState.{FilterState}
use Rattle.spec_history.specs.Machine.{State, Saving, initial}
use Rattle.spec_history.specs.History.{Entry, Kind, asked, starts, ends, is_changed, after_kind, after_entry}
use Rattle.spec_history.specs.History.{replay_from, replay, mine}
use Rattle.spec_history.specs.Kept.{IsFreshReply, IsFreshFrom, IsLegal}
use Rattle.spec_history.proofs.Growing.{out-answer}
use Rattle.spec_script.specs.Script.{Line}
use Rattle.spec_tables.specs.Tables.{HaveTables}
use Rattle.spec_text.specs.Text.{IsTextOf, printed, is_save_memory, made_by}
use Rattle.xl_turn.specs.Sums.{total, times, below}
use Rattle.spec_seats.specs.Picked.{is_at, picked_from, picked, IsFreshAtFrom}
use Rattle.spec_seats.specs.Ended.{MayFollow, opened_by, IsClosed, AreEndedFrom, AreEnded}
use Rattle.spec_seats.specs.Made.{IsOf, HasMade}
use Rattle.spec_seats.proofs.Entries.{match_map, picked-none}

-- ---- the list in which a place stands

record IsIn (x : ℕ) (places : List (List ℕ)) : Type 0 where
  session : ℕ
  below : session < length places
  there : is_at x (slice_index_or places session []) ≡ true

is_in_later : (x : ℕ) (ps : List ℕ) (places : List (List ℕ)) → IsIn x places → IsIn x (ps ∷ places)
is_in_later x ps places found =
    let b = found.below in
    record { session = suc found.session; below = omega (arith, b); there = found.there }

some_list : (x : ℕ) (places : List (List ℕ)) → 0 < total (λ (ps : List ℕ). times x ps) places → IsIn x places
some_list x [] some = absurd (omega (arith, some))
some_list x (ps ∷ places) some = elim (cases_lt 0 (times x ps)) [
  | inl here ↦ record { session = zero; below = omega arith; there = lt-ltb 0 (times x ps) here }
  | inr none ↦ is_in_later x ps places (some_list x places (omega (arith, some, none)))
]

each_in : (n : ℕ) (places : List (List ℕ)) → ((x : ℕ) → total (λ (ps : List ℕ). times x ps) places ≡ below n x) → (x : ℕ) → x < n
    → IsIn x places
each_in n places once x lt =
    let is : below n x ≡ 1 = ap (λ b. cond b 1 0) (lt-ltb x n lt) in
    let all = once x in
    some_list x places (omega (arith, is, all))

-- past the last list there is no place
list_past : (places : List (List ℕ)) (session : ℕ) → length places ≤ session → slice_index_or places session [] ≡ []
list_past [] session le = refl
list_past (ps ∷ places) zero le = absurd (omega (arith, le))
list_past (ps ∷ places) (suc session) le = list_past places session (omega (arith, le))

has_list : (x : ℕ) (places : List (List ℕ)) (session : ℕ) → is_at x (slice_index_or places session []) ≡ true
    → session < length places
has_list x places session is = elim (cases_lt session (length places)) [
  | inl lt ↦ lt
  | inr le ↦ absurd (true≢false (sym is ∙ ap (is_at x) (list_past places session le)))
]

-- ---- an entry is a session's where its place is

-- the entries of the session stand at just these places
abbrev AreAt : (session at : ℕ) → (places : List ℕ) → List Entry → Type 0
AreAt session at places [] = Unit {0}
AreAt session at places (e ∷ es) = ((e.session == session) ≡ is_at at places) × AreAt session (at + 1) places es

all_head : (P : Entry → Type 0) (b : Bool) (e : Entry) (es : List Entry) → b ≡ true → AllByRecursion P (cond b (e ∷ es) es) → P e
all_head P true e es is all = all.0
all_head P false e es is all = cc

all_tail : (P : Entry → Type 0) (b : Bool) (e : Entry) (es : List Entry) → AllByRecursion P (cond b (e ∷ es) es)
    → AllByRecursion P es
all_tail P true e es all = all.1
all_tail P false e es all = all

-- what holds of all that is picked for each session
abbrev PickAll : (P : ℕ → Entry → Type 0) → (places : List (List ℕ)) → (at : ℕ) → List Entry → Type 0
PickAll P places at es =
    (session : ℕ) → session < length places → AllByRecursion (P session) (picked_from at (slice_index_or places session []) es)

pick_tail : (P : ℕ → Entry → Type 0) (places : List (List ℕ)) (at : ℕ) (e : Entry) (es : List Entry) → PickAll P places at (e ∷ es)
    → PickAll P places (at + 1) es
pick_tail P places at e es all session lt =
    let ps = slice_index_or places session [] in
    all_tail (P session) (is_at at ps) e (picked_from (at + 1) ps es) (all session lt)

head_of : (places : List (List ℕ)) (at : ℕ) (e : Entry) (es : List Entry) (session : ℕ) (b : Bool)
    → is_at at (slice_index_or places session []) ≡ b → IsIn at places
    → PickAll (λ s x. x.session ≡ s) places at (e ∷ es) → (e.session == session) ≡ b
head_of places at e es session true is found own =
    let lt = has_list at places session is in
    let ps = slice_index_or places session [] in
    eq-eqb e.session session (all_head (λ x. x.session ≡ session) (is_at at ps) e (picked_from (at + 1) ps es) is (own session lt))
head_of places at e es session false is found own =
    let ps = slice_index_or places found.session [] in
    let here = all_head (λ x. x.session ≡ found.session) (is_at at ps) e (picked_from (at + 1) ps es) found.there
    (own found.session found.below) in
    ne_eqb e.session session (λ q. true≢false (sym found.there
    ∙ (ap (λ s. is_at at (slice_index_or places s [])) (sym here ∙ q) ∙ is)))

are_at : (places : List (List ℕ)) (at : ℕ) (es : List Entry) → ((x : ℕ) → at ≤ x → x < at + length es → IsIn x places)
    → PickAll (λ s x. x.session ≡ s) places at es
    → (session : ℕ) → AreAt session at (slice_index_or places session []) es
are_at places at [] inside own session = tt
are_at places at (e ∷ es) inside own session = (
  head_of places at e es session (is_at at (slice_index_or places session [])) refl (inside at (omega arith) (omega arith)) own,
  are_at places (at + 1) es (λ x low high. inside x (omega (arith, low)) (omega (arith, high)))
      (pick_tail (λ s x. x.session ≡ s) places at e es own) session,
)

-- what holds of all that is picked holds of each entry
each_picked : (P : Entry → Type 0) (places : List (List ℕ)) (at : ℕ) (es : List Entry)
    → ((x : ℕ) → at ≤ x → x < at + length es → IsIn x places) → PickAll (λ s x. P x) places at es
    → AllByRecursion P es
each_picked P places at [] inside all = tt
each_picked P places at (e ∷ es) inside all =
    let found = inside at (omega arith) (omega arith) in
    let ps = slice_index_or places found.session [] in (
      all_head P (is_at at ps) e (picked_from (at + 1) ps es) found.there (all found.session found.below),
      each_picked P places (at + 1) es (λ x low high. inside x (omega (arith, low)) (omega (arith, high)))
          (pick_tail (λ s x. P x) places at e es all),
    )

mine_at : (session at : ℕ) (places : List ℕ) (es : List Entry) → AreAt session at places es
    → mine es session ≡ picked_from at places es
mine_at session at places [] own = refl
mine_at session at places (e ∷ es) own =
    ap (λ b. cond b (e ∷ mine es session) (mine es session)) own.0
    ∙ ap (λ xs. cond (is_at at places) (e ∷ xs) xs) (mine_at session (at + 1) places es own.1)

fresh_at : (session at : ℕ) (places : List ℕ) (now seen : ℕ) (es : List Entry) → AreAt session at places es
    → IsFreshAtFrom at places now seen es → IsFreshFrom session now seen es
fresh_at session at places now seen [] own fresh = tt
fresh_at session at places now seen (e ∷ es) own fresh =
    let then_is = cond (is_changed e.reply) (now + 1) now in
    match_map (is_at at places) (e.session == session)
    {P = IsFreshReply seen e.reply × IsFreshAtFrom (at + 1) places then_is then_is es} {Q =
    IsFreshAtFrom (at + 1) places then_is seen es}
    {P' = IsFreshReply seen e.reply × IsFreshFrom session then_is then_is es} {Q' = IsFreshFrom session then_is seen es}
    own.0
    (λ h. (h.0, fresh_at session (at + 1) places then_is then_is es own.1 h.1))
    (λ h. fresh_at session (at + 1) places then_is seen es own.1 h)
    fresh

-- ---- saves

abbrev IsOpen : Option Entry → Type 0
IsOpen None = ⊥
IsOpen (Some start) = Unit {0}

-- a save that is out is open in its session
abbrev Opens : Option Saving → (open_in : ℕ → Option Entry) → Type 0
Opens None open_in = Unit {0}
Opens (Some out) open_in = IsOpen (open_in out.session)

abbrev opens_next : (ℕ → Option Entry) → Entry → Kind → ℕ → Option Entry
opens_next open_in e kind n = cond (e.session == n) (opened_by e kind) (open_in n)

open_and_closed : (start : Option Entry) → IsOpen start → IsClosed start → ⊥
open_and_closed None is closed = is
open_and_closed (Some start) is closed = closed

none_out : (out : Option Saving) (open_in : ℕ → Option Entry) → Opens out open_in → ((n : ℕ) → IsClosed (open_in n)) → out ≡ None
none_out None open_in opens closed = refl
none_out (Some out) open_in opens closed = absurd (open_and_closed (open_in out.session) opens (closed out.session))

no_call_within : (start : Option Entry) (e : Entry) (kind : Kind) → MayFollow start e kind → IsOpen start → opened_by e kind ≡ None
    → (kind ≡ ends → ⊥) → ⊥
no_call_within None e kind may is none other = is
no_call_within (Some start) e (asked call tables) may is none other = may
no_call_within (Some start) e starts may is none other = may
no_call_within (Some start) e ends may is none other = other refl

still_open : (out : Option Saving) (open_in : ℕ → Option Entry) (e : Entry) (kind : Kind) → MayFollow (open_in e.session) e kind
    → opened_by e kind ≡ None → (kind ≡ ends → ⊥) → Opens out open_in
    → Opens out (opens_next open_in e kind)
still_open None open_in e kind may none other opens = tt
still_open (Some out) open_in e kind may none other opens = go (e.session == out.session) refl where
  go : (b : Bool) → (e.session == out.session) ≡ b → IsOpen (cond b (opened_by e kind) (open_in out.session))
  go true is =
      let same : e.session ≡ out.session = eqb-true e.session out.session is in
      absurd (no_call_within (open_in e.session) e kind may (subst (λ n. IsOpen (open_in n)) (sym same) opens) none other)
  go false is = opens

not_ends : Kind → Bool
not_ends (asked call tables) = true
not_ends starts = true
not_ends ends = false

asked_not_ends : (call : _) (tables : List (List ℕ)) → asked call tables ≡ ends → ⊥
unfolding not_ends
asked_not_ends call tables is = true≢false (ap not_ends is)

opens_step : (base : Document) (s : State) (e : Entry) (kind : Kind) (open_in : ℕ → Option Entry)
    → MayFollow (open_in e.session) e kind → Opens s.out open_in
    → Opens (after_kind base s e kind).out (opens_next open_in e kind)
opens_step base s e (asked call tables) open_in may opens =
    subst (λ out. Opens out (opens_next open_in e (asked call tables))) (sym (out-answer base s call tables))
    (still_open s.out open_in e (asked call tables) may refl (asked_not_ends call tables) opens)
opens_step base s e starts open_in may opens =
    subst (λ b. IsOpen (cond b (Some e) (open_in e.session))) (sym (eq-eqb e.session e.session refl)) tt
opens_step base s e ends open_in may opens = tt

ended_step : (b : Bool) (start : Option Entry) (e : Entry) (es : List Entry) → AreEndedFrom start (cond b (e ∷ es) es)
    → AreEndedFrom (cond b (opened_by e e.kind) start) es
ended_step true start e es ended = ended.1
ended_step false start e es ended = ended

follows : (b : Bool) (start : Option Entry) (e : Entry) (es : List Entry) → b ≡ true → AreEndedFrom start (cond b (e ∷ es) es)
    → MayFollow start e e.kind
follows true start e es is ended = ended.0
follows false start e es is ended = cc

none_out_from : (base : Document) (s : State) (es : List Entry) (open_in : ℕ → Option Entry)
    → ((n : ℕ) → AreEndedFrom (open_in n) (mine es n)) → Opens s.out open_in
    → (replay_from base s es).out ≡ None
none_out_from base s [] open_in ended opens = none_out s.out open_in opens ended
none_out_from base s (e ∷ es) open_in ended opens =
    let may = follows (e.session == e.session) (open_in e.session) e (mine es e.session) (eq-eqb e.session e.session refl)
    (ended e.session) in
    none_out_from base (after_entry base s e) es (opens_next open_in e e.kind)
    (λ n. ended_step (e.session == n) (open_in n) e (mine es n) (ended n))
    (opens_step base s e e.kind open_in may opens)

-- ---- eight sessions

module _ (es : List Entry) (places : List (List ℕ)) (eight : length places ≡ 8) (once : (x : ℕ)
    → total (λ (ps : List ℕ). times x ps) places ≡ below (length es) x) where
  inside : (x : ℕ) → 0 ≤ x → x < 0 + length es → IsIn x places
  inside x low high = each_in (length es) places once x (omega (arith, high))

  abbrev AreOf : Type 0
  AreOf = (session : ℕ) → session < 8 → IsOf session (slice_index_or places session []) es

  all_at : AreOf → (session : ℕ) → AreAt session 0 (slice_index_or places session []) es
  all_at of session = are_at places 0 es inside (λ s lt. (of s (omega (arith, lt, eight))).own) session

  -- what is picked for a session is all that it made
  pub mine_picked : AreOf → (session : ℕ) → mine es session ≡ picked (slice_index_or places session []) es
  mine_picked of session = mine_at session 0 (slice_index_or places session []) es (all_at of session)

  mine_others : AreOf → (session : ℕ) → 8 ≤ session → mine es session ≡ []
  mine_others of session le =
      mine_picked of session ∙ ap (λ ps. picked ps es) (list_past places session (omega (arith, le, eight))) ∙ picked-none 0 es

  mine_ended : AreOf → (session : ℕ) → AreEnded (mine es session)
  mine_ended of session = elim (cases_lt session 8) [
    | inl lt ↦ subst AreEnded (sym (mine_picked of session)) (of session lt).ended
    | inr le ↦ subst AreEnded (sym (mine_others of session le)) tt
  ]

  -- no save is out at the end
  pub no_save_out : (base : Document) → AreOf → (replay base es).out ≡ None
  no_save_out base of = none_out_from base (initial base) es (λ n. None) (mine_ended of) tt

  module _ (base : Document) (scripts : List (List Line)) (chests : List (List FilterState)) where
    -- the printed lines are a text of the script
    pub seats_make_text : IsLegal base es
        → ((session : ℕ) → session < 8 → HasMade session (unwrap_or (slice_get chests session) [])
        (unwrap_or (slice_get scripts session) []) (slice_index_or places session []) es)
        → IsTextOf (printed base es) base scripts chests es
    seats_make_text legal made =
        let of : AreOf = λ session lt. (made session lt).of in
        record {
          legal = legal;
          ended = no_save_out base of;
          printable = each_picked (λ e. is_save_memory e.reply ≡ false) places 0 es inside
              (λ s lt. (made s (omega (arith, lt, eight))).printable);
          calls = λ session lt. ap (filter_map (λ (e : Entry). made_by e.kind)) (mine_picked of session) ∙ (made session lt).calls;
          others = λ session le. mine_others of session le;
          fresh = λ session lt. fresh_at session 0 (slice_index_or places session []) 0 0 es (all_at of session)
              (made session lt).fresh;
          tables = λ session lt. subst (HaveTables (unwrap_or (slice_get chests session) [])) (sym (mine_picked of session))
              (made session lt).tables;
          text = refl;
        }
