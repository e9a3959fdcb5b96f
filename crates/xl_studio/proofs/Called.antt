-- What a call makes of the list under the lock.
use Rattle.std.proofs.Common.{◌≡◌, ℕ, ◌+◌, ◌-◌, ◌≤◌, Bool, true, false, cond, List, [], ◌∷◌, ◌++◌, length, Option}
use Rattle.std.proofs.Common.{Some, None, refl, sym, ap, ◌∙◌, subst, arith, inl, inr, add-zero}
use Rattle.std.specs.Prelude.{nat_le, nat_lt, ◌==◌, MatchBool, Result, Ok, Err, IfOk, OnErr, IsSome}
use Rattle.std.proofs.lemmas.Bool.{ltb-false}
use Rattle.std.proofs.lemmas.Bool.Decides.{nat_tests}
use Rattle.std.proofs.lemmas.Result.{IfOk-weaker, on_err_weaker}
use Rattle.spec_document.specs.Document.{Document}
use Rattle.spec_cache.specs.Slots.{Shown}
use Rattle.spec_cache.specs.Cache.{Cache, kept}
use Rattle.spec_history.specs.Machine as machine
use Rattle.spec_history.specs.Machine.{Call, Reply, tile_of, stale, history_full, State, latest}
use Rattle.spec_history.specs.History.{Entry, Kind, asked, starts, ends, replay, latest_of}
use Rattle.spec_history.specs.Kept.{IsFreshReply, IsLegal}
use Rattle.spec_history.specs.declared.TheConstants.{MAX_ENTRIES}
use Rattle.spec_history.proofs.Growing.{cond_both, replay-snoc}
use Rattle.spec_history.proofs.Seen.{fresh-answer}
use Rattle.spec_history.proofs.Versions.{latest_of-legal}
use Rattle.spec_filters.specs.declared.FilterState.{FilterState}
use Rattle.spec_tables.specs.Agrees.{Agrees}
use Rattle.spec_tables.proofs.Chests.{some_list}
use Rattle.spec_tables.specs.Tables.{expected_tables}
use Rattle.spec_world.specs.Right.{IsRight}
use Rattle.spec_world.specs.World.{World, free_entries}
use Rattle.spec_world.specs.Events.{Outcome, with_call, peek_reply, where_tile, reply_to}
use Rattle.spec_saves.specs.Names.{saves_started, is_start}
use Rattle.spec_saves.proofs.Staying.{saves_started-snoc}
use Rattle.xl_history.specs.History.{is_full}
use Rattle.xl_history.specs.Needs.{TakesNoStep}
use Rattle.xl_history.specs.Editing.{Editing, world, out_of, IsSubmitted, KeepsShelf, IsAsBefore}
use Rattle.xl_history.specs.Answering.{AnswersCall}
use Rattle.xl_studio.specs.declared.moment.Moment.{Moment}
use Rattle.xl_studio.specs.declared.moment.Moment.TheVariants.{Made}
use Rattle.xl_studio.specs.Moments.{IsAsked, moments, entries_in}
use Rattle.xl_studio.specs.State.{moments_of, IsKept}
use Rattle.xl_studio.specs.Calling.{called_entry, Adds, AddsCalls, IsNoTile}
use Rattle.xl_studio.proofs.Grown.{moments-call, entries-append, entries-moments}
use Rattle.xl_studio.proofs.StillOut.{out_stays}

none_free : (most taken : ℕ) → (most - taken == 0) ≡ nat_le most taken
none_free most taken = grind (arith, nat_tests)

abbrev one_if : Bool → ℕ
one_if b = cond b 1 0

no_start : (k : Kind) → IsAsked k → one_if (is_start k) ≡ 0
no_start (asked call tables) is = refl
no_start starts is = absurd is
no_start ends is = absurd is

pub takes_none : (cache : Cache) (call : Call) → IsNoTile call → TakesNoStep cache call
takes_none cache (machine.tile stack at) none = absurd none
takes_none cache (machine.edit guard edits) none = tt
takes_none cache (machine.undo named) none = tt
takes_none cache machine.redo none = tt
takes_none cache (machine.peek stack at) none = tt
takes_none cache machine.top none = tt

-- ---- no older than what was seen

peek_fresh : (shown : Option Shown) (seen : ℕ) → IsFreshReply seen (peek_reply shown seen)
peek_fresh None seen = refl
peek_fresh (Some shown) seen = go (nat_lt shown.version seen) refl
  where
    go : (b : Bool) → nat_lt shown.version seen ≡ b
        → IsFreshReply seen (cond b (stale (Some shown.version) seen) (tile_of shown.version))
    go true is = refl
    go false is = omega (arith, ltb-false shown.version seen is)

where_fresh : (seen : ℕ) (plain shown : Reply) → IsFreshReply seen plain → IsFreshReply seen shown
    → IsFreshReply seen (where_tile plain shown)
where_fresh seen (tile_of v) shown p q = q
where_fresh seen plain shown p q = p

to_fresh : (base : Document) (w : World) (call : Call) (seen : ℕ) (tables : List (List ℕ)) → seen ≤ latest w.state
    → IsFreshReply seen (reply_to base w call seen tables)
to_fresh base w (machine.peek stack at) seen tables le =
    where_fresh seen _ _ (fresh-answer base w.state (machine.peek stack at) tables seen le)
    (peek_fresh (kept w.cache stack at (latest w.state)) seen)
to_fresh base w call seen tables le = fresh-answer base w.state call tables seen le

module _ {K : Type 0} where
  -- the same base, opening and shelves
  same_moments : (old new : Editing K) (es : List Entry) → new.history.base ≡ old.history.base → KeepsShelf old new
      → new.history.entries ≡ es
      → moments_of new ≡ moments old.history.base old.opening old.handed es
  same_moments old new es base keeps entries =
      ap (λ b. moments b new.opening new.handed new.history.entries) base
      ∙ ap (λ k. moments old.history.base k new.handed new.history.entries) keeps.opening
      ∙ ap (λ hs. moments old.history.base old.opening hs new.history.entries) keeps.handed
      ∙ ap (λ es. moments old.history.base old.opening old.handed es) entries

  abbrev outcome : Editing K → (session : ℕ) → Call → (tables : List (List ℕ)) → (given : Reply) → (full : Bool) → Outcome
  outcome old session call tables given full =
      cond full (record { reply = history_full; world = world old })
      (record { reply = given; world = with_call old.history.base (world old) session call tables given })

  adds_where : (old new : Editing K) (session : ℕ) (call : Call) (tables : List (List ℕ)) (reply given : Reply) (full : Bool)
      → new.history.base ≡ old.history.base → KeepsShelf old new
      → reply ≡ (outcome old session call tables given full).reply → world new ≡ (outcome old session call tables given full).world
      → MatchBool full ((reply ≡ history_full) × (moments_of new ≡ moments_of old))
      (moments_of new ≡ moments_of old ++ Made (called_entry old.history.entries session call tables reply) None ∷ [])
  adds_where old new session call tables reply given true base keeps r is =
      (r, same_moments old new old.history.entries base keeps (ap (λ (v : World). v.entries) is))
  adds_where old new session call tables reply given false base keeps r is =
      same_moments old new (old.history.entries
      ++ called_entry old.history.entries session call tables given ∷ []) base keeps (ap (λ (v : World). v.entries) is)
      ∙ moments-call old.history.base old.opening old.handed old.history.entries
      (called_entry old.history.entries session call tables given) call tables refl
      ∙ ap (λ (x : Reply). moments_of old ++ Made (called_entry old.history.entries session call tables x) None ∷ []) (sym r)

  pub adds : (old new : Editing K) (session : ℕ) (call : Call) (seen : ℕ) (tables : List (List ℕ)) (reply : Reply)
      → IsSubmitted old session call seen tables reply new → KeepsShelf old new
      → Adds old.history.base (moments_of old) session call tables reply (moments_of new)
  adds old new session call seen tables reply is keeps =
      let es : entries_in (moments_of old) ≡ old.history.entries =
      entries-moments old.history.base old.opening old.handed old.history.entries in
      let full : (free_entries (world old) == 0) ≡ is_full (record { base = old.history.base; entries = old.history.entries }) =
      none_free MAX_ENTRIES _ in
      let P : List Entry → Type 0 = λ entries. MatchBool (is_full (record { base = old.history.base; entries = entries }))
      ((reply ≡ history_full) × (moments_of new ≡ moments_of old))
      (moments_of new ≡ moments_of old ++ Made (called_entry entries session call tables reply) None ∷ []) in
      let given = reply_to old.history.base (world old) call seen tables in
      record {
        is = subst P (sym es)
            (subst (λ (b : Bool). MatchBool b ((reply ≡ history_full)
            × (moments_of new ≡ moments_of old)) (moments_of new ≡ moments_of old
            ++ Made (called_entry old.history.entries session call tables reply) None ∷ []))
            full (adds_where old new session call tables reply given (free_entries (world old) == 0) is.0 keeps is.1 is.2));
      }

  adds_calls_where : (full : Bool) (entered left : List (Moment K)) (e : Entry) (P : Type 0) → IsAsked e.kind
      → MatchBool full (P × (left ≡ entered)) (left ≡ entered ++ Made e None ∷ []) → AddsCalls entered left
  adds_calls_where true entered left e P is h = record { is = inl h.1 }
  adds_calls_where false entered left e P is h = record { is = inr (e, is, h) }

  pub adds_calls : (base : Document) (entered left : List (Moment K)) (session : ℕ) (call : Call) (tables : List (List ℕ))
      (reply : Reply) → Adds base entered session call tables reply left → AddsCalls entered left
  adds_calls base entered left session call tables reply h =
      adds_calls_where (is_full (record { base = base; entries = entries_in entered })) entered left
      (called_entry (entries_in entered) session call tables reply) (reply ≡ history_full) tt h.is

  -- ---- what is kept

  back : (c : Editing K) → entries_in (moments_of c) ≡ c.history.entries
  back c = entries-moments c.history.base c.opening c.handed c.history.entries

  starts_after : (old new : Editing K) → AddsCalls (moments_of old) (moments_of new)
      → saves_started new.history.entries ≡ saves_started old.history.entries
  starts_after old new adds = elim adds.is [
    | inl same ↦ ap saves_started (sym (back new) ∙ (ap entries_in same ∙ back old))
    | inr more ↦
        let e : Entry = more.0 in
        ap saves_started (sym (back new)
        ∙ (ap entries_in more.2 ∙ (entries-append (moments_of old) (Made e None ∷ []) ∙ ap (λ es. es ++ e ∷ []) (back old))))
        ∙ (saves_started-snoc old.history.entries e
        ∙ (ap (λ n. saves_started old.history.entries + n) (no_start e.kind more.1)
        ∙ add-zero (saves_started old.history.entries)))
  ]

  -- calls leave the save out
  out_after : (old new : Editing K) → new.history.base ≡ old.history.base → AddsCalls (moments_of old) (moments_of new)
      → out_of new.history ≡ out_of old.history
  out_after old new base adds = elim adds.is [
    | inl same ↦ rebased ∙ ap (λ (es : List Entry). (replay old.history.base es).out) (sym (back new)
        ∙ (ap entries_in same ∙ back old))
    | inr more ↦
        let e : Entry = more.0 in
        let es : List Entry = old.history.entries in
        let grown : new.history.entries ≡ es ++ e ∷ [] = sym (back new)
        ∙ (ap entries_in more.2 ∙ (entries-append (moments_of old) (Made e None ∷ []) ∙ ap (λ xs. xs ++ e ∷ []) (back old))) in
        rebased
        ∙ (ap (λ (xs : List Entry). (replay old.history.base xs).out) grown
        ∙ (ap (λ (s : State). s.out) (replay-snoc old.history.base es e)
        ∙ out_stays old.history.base (replay old.history.base es) e e.kind more.1))
  ] where
    rebased : out_of new.history ≡ (replay old.history.base new.history.entries).out
    rebased = ap (λ (b : Document). (replay b new.history.entries).out) base

  pub same_after : (old new : Editing K) → IsAsBefore old new → moments_of new ≡ moments_of old
  same_after old new same =
      same_moments old new old.history.entries (ap (λ h. h.base) same.history)
      (record { opening = same.opening; handed = same.handed; shelf = same.shelf }) (ap (λ h. h.entries) same.history)

  is_fresh : (old new : Editing K) (session : ℕ) (call : Call) (seen : ℕ) (tables : List (List ℕ)) (reply : Reply)
      → IsSubmitted old session call seen tables reply new
      → seen ≤ latest (replay old.history.base old.history.entries) → IsFreshReply seen reply
  is_fresh old new session call seen tables reply is le =
      let given = reply_to old.history.base (world old) call seen tables in
      subst (IsFreshReply seen) (sym is.1)
      (cond_both (λ (o : Outcome). IsFreshReply seen o.reply) (free_entries (world old) == 0)
      (record { reply = history_full; world = world old })
      (record { reply = given; world = with_call old.history.base (world old) session call tables given }) tt
      (to_fresh old.history.base (world old) call seen tables le))

-- whatever a result is
either_way : {R E P : Type 0} (r : Result R E) → IfOk r (λ _. P) → OnErr r P → P
either_way (Ok x) ok err = ok
either_way (Err e) ok err = err

-- ---- what a core answered

module _ {K R E : Type 0} {reply_of : R → Reply} {session : ℕ} {call : Call} {seen : ℕ} {r : Result R E} {old new : Editing K}
    {before after : List (Option FilterState)} {bytes_before bytes_after : List ℕ} {steps_before steps_after : ℕ}
    (told : AnswersCall reply_of session call seen r old new before after bytes_before bytes_after steps_before steps_after) where
  -- what is said of a core is said of it by another name
  pub told_same : (was : Editing K) → old ≡ was
      → AnswersCall reply_of session call seen r was new before after bytes_before bytes_after steps_before steps_after
  told_same was same =
      subst (λ (c : Editing K). AnswersCall reply_of session call seen r c new before after bytes_before bytes_after
      steps_before steps_after) same told

  pub adds_after : (filters : List FilterState) → Agrees before filters
      → IfOk r (λ reply. Adds old.history.base (moments_of old) session call
      (expected_tables filters (asked call []) (reply_of reply)) (reply_of reply) (moments_of new))
  adds_after filters agrees =
      IfOk-weaker r _ _ (λ (reply : R) is.
      adds old new session call seen (expected_tables filters (asked call []) (reply_of reply)) (reply_of reply) is told.shelf)
      (told.answered filters agrees)

  pub failed_after : OnErr r (moments_of new ≡ moments_of old)
  failed_after = on_err_weaker r (same_after old new) told.as_before

  -- a call leaves one call more at most, whatever its filters have answered
  pub calls_after : AddsCalls (moments_of old) (moments_of new)
  calls_after =
      let some = some_list before in
      either_way r (IfOk-weaker r _ _ (λ (reply : R) more.
      adds_calls old.history.base (moments_of old) (moments_of new) session call
      (expected_tables some.0 (asked call []) (reply_of reply)) (reply_of reply) more) (adds_after some.0 some.1))
      (on_err_weaker r (λ (same : moments_of new ≡ moments_of old). record { is = inl same }) failed_after)

  -- and its base stays
  pub base_after : new.history.base ≡ old.history.base
  base_after =
      let some = some_list before in
      let tables : R → List (List ℕ) = λ reply. expected_tables some.0 (asked call []) (reply_of reply) in
      either_way r (IfOk-weaker r _ _ (λ (reply : R) (is : IsSubmitted old session call seen (tables reply) (reply_of reply) new). is.0)
      (told.answered some.0 some.1))
      (on_err_weaker r (λ (same : IsAsBefore old new). ap (λ h. h.base) same.history) told.as_before)

  pub fresh_after : IsLegal old.history.base old.history.entries → seen ≤ latest_of old.history.entries
      → IfOk r (λ reply. IsFreshReply seen (reply_of reply))
  fresh_after legal le =
      let some = some_list before in
      let last = latest_of-legal old.history.base old.history.entries legal in
      IfOk-weaker r _ _ (λ (reply : R) is.
      is_fresh old new session call seen (expected_tables some.0 (asked call []) (reply_of reply)) (reply_of reply) is
      (omega (arith, last, le))) (told.answered some.0 some.1)

  pub kept_after : IsKept old → IsRight new.history.base (world new) → IsKept new
  kept_after kept right = record {
    right = right;
    few = told.few;
    each_start = ap length told.shelf.handed ∙ (kept.each_start ∙ sym (starts_after old new calls_after));
    shelf_in = λ is. out_after old new base_after calls_after
        ∙ kept.shelf_in (subst (λ (k : Option K). IsSome k) told.shelf.shelf is);
  }
