-- Which slots a version marks.
use Rattle.std.proofs.Common.{◌≡◌, ℕ, suc, ◌+◌, ◌-◌, Bool, true, false, cond, not, ◌&&◌, ◌==◌, nat_lt, List, refl, sym}
use Rattle.std.proofs.Common.{◌∙◌, ap, subst, true≢false, arith}
use Rattle.std.specs.Prelude.{Option, Some, None, is_some, option_map, option_and_then, unwrap_or, slice_get}
use Rattle.std.proofs.lemmas.Bool.{and_right}
use Rattle.spec_document.specs.declared.TileAt.{TileAt}
use Rattle.spec_document.specs.Grid.{is_on_grid}
use Rattle.spec_document.specs.Document.{Document}
use Rattle.spec_cache.specs.Slots.{Slot, Slots, Shown, AreOfCanvas, blank_slots, slot_at, mark_slot, mark_slots}
use Rattle.spec_cache.specs.Cache as cache
use Rattle.spec_cache.specs.Cache.{slots_of, slot_of}
use Rattle.spec_cache.proofs.Found.{slot_at-changed, slot_at-blank, canvas-found}
use Rattle.spec_history.specs.Machine.{Call, edit, undo, redo, tile, peek, top, Reply, changed, stale, tile_of}
use Rattle.spec_history.specs.Machine.{no_stack, outside_tile, history_full, tile_reply, State, Cause, latest}
use Rattle.spec_history.specs.Machine.{document_at, has_stack, answer}
use Rattle.spec_history.specs.History.{Entry, asked, next_index, after_entry, is_changed, IsStep}
use Rattle.spec_history.specs.Kept.{damaged_at, PeekMeetsKept}
use Rattle.spec_world.specs.World.{World, document_now, free_entries, rects_of, cache_after}
use Rattle.spec_world.specs.Events.{peek_reply, where_tile, reply_to, with_call, cache_of, Outcome}
use Rattle.spec_history.specs.Marks.{came_at, marks}
use Rattle.spec_world.specs.Right.{slot_after, SlotIsMarked, MarksExactly, CallsMarkExactly, IsRight}
use Rattle.spec_world.proofs.SlotLaws.{OneMore, before}
use Rattle.spec_world.proofs.Entered.{follows-step}
use Rattle.spec_world.proofs.Changed.{meets, meets-same, or-none, slots_of-between}

pub exact-slot : (base : Document) (w : World) (t : State) (stack : ℕ) (at : TileAt) (slots : Slots) (slot : Slot) → IsRight base w
    → OneMore base w.state t
    → slots_of w.cache stack ≡ Some slots
    → slot_at (mark_slots (rects_of (slice_get t.causes (latest t - 1)) stack) (latest t) slots) at ≡ Some slot
    → SlotIsMarked base t stack at (slot_of w.cache stack at) slot
exact-slot base w t stack at slots slot is more there found =
    go (slot_at slots at) refl (sym (slot_at-changed change slots at) ∙ found)
  where
    cause : Option Cause
    cause = slice_get t.causes (latest t - 1)

    change : TileAt → Slot → Slot
    change place slot = cond (meets cause stack slots.width slots.height place) (mark_slot (latest t) slot) slot

    had : has_stack (document_now base w.state) stack ≡ true
    had = sym (is.stacks stack) ∙ ap is_some there

    of_canvas : AreOfCanvas base.width base.height slots
    of_canvas = canvas-found base.width base.height w.cache.held stack slots is.slots.of_canvas there

    stayed : came_at base t stack (latest t) ≡ false
    stayed = and_right (has_stack (document_now base t) stack) (not (has_stack (document_at base t (latest t - 1)) stack))
        (ap not (ap (λ d. has_stack d stack) (before base w.state t more) ∙ had))

    test : meets cause stack slots.width slots.height at ≡ marks base t stack at (latest t)
    test =
        (λ i. meets cause stack (of_canvas.width_is i) (of_canvas.height_is i) at)
        ∙ (meets-same cause stack base.width base.height at
        ∙ sym (or-none (came_at base t stack (latest t)) (damaged_at base t stack at (latest t)) stayed))

    go : (o : Option Slot) → slot_at slots at ≡ o → option_map (change at) o ≡ Some slot
        → SlotIsMarked base t stack at (slot_of w.cache stack at) slot
    go None p q = absurd (true≢false (sym (ap is_some q)))
    go (Some x) p q =
        let here : slot_of w.cache stack at ≡ Some x = ap (option_and_then (λ k. slot_at k at)) there ∙ p in
        let same : slot ≡ slot_after base t stack at x = ap (λ o. unwrap_or o x) (sym q)
        ∙ ap (λ b. cond b (mark_slot (latest t) x) x) test in
        subst (λ o. SlotIsMarked base t stack at o slot) (sym here) same

exact-cache : (base : Document) (w : World) (t : State) (stack : ℕ) (at : TileAt) (slot : Slot) → IsRight base w
    → OneMore base w.state t
    → slot_of (cache_after base w.state t w.cache) stack at ≡ Some slot
    → SlotIsMarked base t stack at (slot_of w.cache stack at) slot
exact-cache base w t stack at slot is more found =
    go (has_stack old stack) (has_stack new stack) (slots_of w.cache stack) (is.stacks stack) refl
    (sym (ap (option_and_then (λ k. slot_at k at)) (slots_of-between base old new cause (latest t) w.cache stack)) ∙ found)
  where
    old : Document
    old = document_now base w.state

    new : Document
    new = document_now base t

    cause : Option Cause
    cause = slice_get t.causes (latest t - 1)

    go : (was has : Bool) (o : Option Slots) → is_some (slots_of w.cache stack) ≡ was → slots_of w.cache stack ≡ o
        → option_and_then (λ k. slot_at k at)
        (cond (not was && has) (Some (blank_slots base.width base.height (latest t)))
        (option_map (mark_slots (rects_of cause stack) (latest t)) (cond has o None))) ≡ Some slot
        → SlotIsMarked base t stack at (slot_of w.cache stack at) slot
    go false true None p r f =
        subst (λ o. SlotIsMarked base t stack at o slot) (sym (ap (option_and_then (λ k. slot_at k at)) r))
        (slot_at-blank base.width base.height (latest t) at slot f)
    go false true (Some slots) p r f = absurd (true≢false (sym (ap is_some r) ∙ p))
    go true true (Some slots) p r f = exact-slot base w t stack at slots slot is more r f
    go true true None p r f = absurd (true≢false (sym (ap is_some f)))
    go true false o p r f = absurd (true≢false (sym (ap is_some f)))
    go false false o p r f = absurd (true≢false (sym (ap is_some f)))

exact-call : (base : Document) (w : World) (session : ℕ) (call : Call) (tables : List (List ℕ)) (reply : Reply) → IsRight base w
    → IsStep base w.state w.entries (record {
      session = session;
      index = next_index w.entries session;
      kind = asked call tables;
      reply = reply;
    })
    → PeekMeetsKept base w.entries (asked call tables) reply → is_changed reply ≡ true
    → ((v g n : ℕ) (t : State) → cache_of base w.state t call (changed v g n) w.cache ≡ cache_after base w.state t w.cache)
    → MarksExactly base w (with_call base w session call tables reply)
exact-call base w session call tables (changed v g n) is step peeks change follows = λ stack at slot found.
    let e : Entry = record {
      session = session;
      index = next_index w.entries session;
      kind = asked call tables;
      reply =
          changed v g n;
    } in
    let t : State = after_entry base w.state e in
    let enter = follows-step base w.entries e w.state is.legal is.replayed step in
    let next : latest t ≡ suc (latest w.state) = enter.versions
    ∙ (let one_more : latest w.state + 1 ≡ suc (latest w.state) = omega arith in one_more) in
    exact-cache base w t stack at slot is (record { lasts = enter.lasts; next = next })
    (sym (ap (λ c. slot_of c stack at) (follows v g n t)) ∙ found)
exact-call base w session call tables reply is step peeks change follows = absurd (true≢false (sym change))

-- a tile or a peek makes no version
pub tile-never : (d : Document) (k : ℕ) (at : TileAt) (reply : Reply) → is_changed reply ≡ false
    → is_changed (tile_reply d k at reply) ≡ false
tile-never d k at reply same = go (not (has_stack d k)) (not (is_on_grid d.width d.height at))
  where
    go : (a b : Bool) → is_changed (cond a (no_stack k) (cond b outside_tile reply)) ≡ false
    go true b = refl
    go false true = refl
    go false false = same

peek-never : (shown : Option Shown) (seen : ℕ) → is_changed (peek_reply shown seen) ≡ false
peek-never None seen = refl
peek-never (Some k) seen = go (nat_lt k.version seen)
  where
    go : (b : Bool) → is_changed (cond b (stale (Some k.version) seen) (tile_of k.version)) ≡ false
    go true = refl
    go false = refl

where-never : (plain shown : Reply) → is_changed plain ≡ false → is_changed shown ≡ false
    → is_changed (where_tile plain shown) ≡ false
where-never (tile_of version) shown a b = b
where-never plain shown a b = a

exact-any : (base : Document) (w : World) (session : ℕ) (call : Call) (seen : ℕ) (tables : List (List ℕ)) → IsRight base w
    → is_changed (reply_to base w call seen tables) ≡ true
    → MarksExactly base w (with_call base w session call tables (reply_to base w call seen tables))
exact-any base w session (edit guard es) seen tables is change =
    exact-call base w session (edit guard es) tables (answer base w.state (edit guard es) tables).reply is (
      refl,
      refl,
    ) tt change (λ v g n t. refl)
exact-any base w session (undo named) seen tables is change =
    exact-call base w session (undo named) tables (answer base w.state (undo named) tables).reply is (
      refl,
      refl,
    ) tt change (λ v g n t. refl)
exact-any base w session redo seen tables is change =
    exact-call base w session redo tables (answer base w.state redo tables).reply is (refl, refl) tt change (λ v g n t. refl)
exact-any base w session top seen tables is change = absurd (true≢false (sym change))
exact-any base w session (tile k at) seen tables is change =
    absurd (true≢false (sym change ∙ tile-never (document_now base w.state) k at (tile_of (latest w.state)) refl))
exact-any base w session (peek k at) seen tables is change =
    absurd (true≢false (sym change ∙ where-never (tile_reply (document_now base w.state) k at (tile_of (latest w.state)))
    (peek_reply (cache.kept w.cache k at (latest w.state)) seen)
    (tile-never (document_now base w.state) k at (tile_of (latest w.state)) refl)
    (peek-never (cache.kept w.cache k at (latest w.state)) seen)))

pub mark-exactly : (base : Document) → CallsMarkExactly base
mark-exactly base w session call seen tables is change =
    go (free_entries w == 0) (exact-any base w session call seen tables is) change
  where
    full : Outcome
    full = record { reply = history_full; world = w }

    done : Outcome
    done = record {
      reply = reply_to base w call seen tables;
      world =
          with_call base w session call tables (reply_to base w call seen tables);
    }

    go : (b : Bool) → (is_changed done.reply ≡ true → MarksExactly base w done.world) → is_changed (cond b full done).reply ≡ true
        → MarksExactly base w (cond b full done).world
    go true rest h = absurd (true≢false (sym h))
    go false rest h = rest h
