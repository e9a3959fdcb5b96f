-- Where no job brings a result, the slots keep just what has to be kept.
use Rattle.std.proofs.Common.{◌≡◌, ℕ, suc, ◌+◌, ◌-◌, Bool, true, false, cond, not, ◌&&◌, ◌||◌, [], ◌∷◌, ◌++◌, refl}
use Rattle.std.proofs.Common.{sym, ◌∙◌, ap, subst, true≢false, arith}
use Rattle.std.specs.Prelude.{Option, Some, None, is_some, option_map, option_and_then, slice_get}
use Rattle.std.proofs.lemmas.Bool.{and_right}
use Rattle.spec_document.specs.declared.TileAt.{TileAt}
use Rattle.spec_document.specs.Document.{Document}
use Rattle.spec_document.specs.Limits.{IsDocument}
use Rattle.spec_cache.specs.Slots.{Slot, Slots, blank_slots, slot_at, mark_slot, mark_slots}
use Rattle.spec_cache.specs.Cache.{slots_of, slot_of}
use Rattle.spec_cache.proofs.Found.{slot_at-changed, slot_at-blank}
use Rattle.spec_history.specs.Machine.{State, Cause, latest, document_at, has_stack}
use Rattle.spec_history.specs.History.{Entry, after_entry, replay, is_changed, IsStep, document_of}
use Rattle.spec_history.specs.Limited.{AsksCall}
use Rattle.spec_history.specs.Kept.{shown_version, damaged_at, PeekMeetsKept}
use Rattle.spec_history.specs.Marks.{came_at, marks}
use Rattle.spec_history.specs.Slots.{IsExactSlot}
use Rattle.spec_history.proofs.SlotsExact.{exact-first, exact-new, exact-stays, exact-marked}
use Rattle.spec_world.specs.World.{World, document_now, rects_of, cache_after}
use Rattle.spec_world.specs.Events.{with_entry}
use Rattle.spec_world.specs.Right.{slot_after, SlotIsMarked, IsRight}
use Rattle.spec_world.specs.Exact.{SlotIsExact, SlotsAreExact, StartsExact}
use Rattle.spec_world.proofs.SlotLaws.{OneMore, before}
use Rattle.spec_world.proofs.Entered.{Enters, enters}
use Rattle.spec_world.proofs.Standing.{now-same}
use Rattle.spec_world.proofs.Filled.{slots-of-slot}
use Rattle.spec_world.proofs.Changed.{slots_of-between}
use Rattle.spec_world.proofs.AllRight.{start-slots}
use Rattle.spec_world.proofs.Marked.{exact-slot}

-- ---- the start

pub starts-exact : (base : Document) → StartsExact base
starts-exact base stack at slot found =
    go (has_stack base stack) refl (sym (ap (option_and_then (λ k. slot_at k at)) (start-slots base stack)) ∙ found)
  where
    go : (b : Bool) → has_stack base stack ≡ b
        → option_and_then (λ k. slot_at k at) (cond b (Some (blank_slots base.width base.height 0)) None) ≡ Some slot
        → SlotIsExact base [] stack at slot
    go true has e = subst (SlotIsExact base [] stack at) (sym (slot_at-blank base.width base.height 0 at slot e))
        (exact-first base stack at 0 has)
    go false has e = absurd (true≢false (sym (ap is_some e)))

-- ---- one entry more

-- an entry that may come after a right world, whose slots are exact
pub record IsNext (base : Document) (w : World) (e : Entry) : Type 0 where
  pub within : IsDocument base
  pub is : IsRight base w
  pub exact : SlotsAreExact base w
  pub step : IsStep base w.state w.entries e
  pub enters : Enters base w.entries e w.state (after_entry base w.state e)

pub next-entry : (base : Document) (w : World) (e : Entry) → IsDocument base → IsRight base w → SlotsAreExact base w
    → AsksCall e.kind → IsStep base w.state w.entries e → PeekMeetsKept base w.entries e.kind e.reply → IsNext base w e
next-entry base w e within is exact asks step peeks = record {
  within = within;
  is = is;
  exact = exact;
  step = step;
  enters = enters base w.entries e w.state is.legal is.replayed asks step peeks;
}

pub plain-step : (base : Document) (w : World) (e : Entry) → IsNext base w e → IsStep base (replay base w.entries) w.entries e
plain-step base w e n = subst (λ s. IsStep base s w.entries e) n.is.replayed n.step

-- a stack with a slot is there
slot-stack : (base : Document) (w : World) (stack : ℕ) (at : TileAt) (slot : Slot) → IsRight base w
    → slot_of w.cache stack at ≡ Some slot
    → has_stack (document_now base w.state) stack ≡ true
slot-stack base w stack at slot is found = sym (is.stacks stack) ∙ slots-of-slot w.cache stack at slot found

same-latest : (base : Document) (w : World) (e : Entry) → IsNext base w e → is_changed e.reply ≡ false
    → latest (after_entry base w.state e) ≡ latest w.state
same-latest base w e n unchanged =
    n.enters.versions ∙ (ap (λ b. latest w.state + cond b 1 0) unchanged
    ∙ (let zero_more : latest w.state + 0 ≡ latest w.state = omega arith in zero_more))

-- the slot of a tile that the entry does not show, where the entry makes no version
pub slot-stays : (base : Document) (w : World) (e : Entry) (stack : ℕ) (at : TileAt) (slot : Slot) → IsNext base w e
    → is_changed e.reply ≡ false
    → shown_version e.kind e.reply stack at ≡ None → slot_of w.cache stack at ≡ Some slot
    → SlotIsExact base (w.entries ++ e ∷ []) stack at slot
slot-stays base w e stack at slot n unchanged silent found =
    let t : State = after_entry base w.state e in
    let there : has_stack (document_of base (w.entries ++ e ∷ []) (latest (replay base (w.entries ++ e ∷ [])))) stack ≡ true =
    ap (λ s. has_stack (document_now base s) stack) (sym n.enters.replayed)
    ∙ (ap (λ d. has_stack d stack) (now-same base w.state t n.enters.lasts (same-latest base w e n unchanged))
    ∙ slot-stack base w stack at slot n.is found) in
    exact-stays base w.entries e stack at slot.picture slot.good_to slot.marked slot.marked_at n.within n.is.legal.run
    (plain-step base w e n)
    (n.exact stack at slot found) silent there
    (ap (λ b. b && damaged_at base (replay base (w.entries ++ e ∷ [])) stack at (latest (replay base (w.entries ++ e ∷ []))))
    unchanged)

-- an entry that makes no version and shows no tile
pub stays-exact : (base : Document) (w : World) (e : Entry) → IsNext base w e → is_changed e.reply ≡ false
    → ((stack : ℕ) (at : TileAt) → shown_version e.kind e.reply stack at ≡ None) → SlotsAreExact base (with_entry base w e)
stays-exact base w e n unchanged silent stack at slot found = slot-stays base w e stack at slot n unchanged (silent stack at) found

-- ---- a version more

-- what the version makes of the slot of a stack that stays
version-exact : (base : Document) (w : World) (e : Entry) (stack : ℕ) (at : TileAt) (slot : Slot) → IsNext base w e
    → OneMore base w.state (after_entry base w.state e) → is_changed e.reply ≡ true → shown_version e.kind e.reply stack at ≡ None
    → slot_of w.cache stack at ≡ Some slot → has_stack (document_now base (after_entry base w.state e)) stack ≡ true
    → SlotIsExact base (w.entries ++ e ∷ []) stack at (slot_after base (after_entry base w.state e) stack at slot)
version-exact base w e stack at slot n more change silent found has = go (marks base t stack at (latest t)) refl
  where
    t : State
    t = after_entry base w.state e

    was : SlotIsExact base w.entries stack at slot
    was = n.exact stack at slot found

    there : has_stack (document_of base (w.entries ++ e ∷ []) (latest (replay base (w.entries ++ e ∷ [])))) stack ≡ true
    there = ap (λ s. has_stack (document_now base s) stack) (sym n.enters.replayed) ∙ has

    stayed : came_at base t stack (latest t) ≡ false
    stayed =
        and_right (has_stack (document_now base t) stack) (not (has_stack (document_at base t (latest t - 1)) stack))
        (ap not (ap (λ d. has_stack d stack) (before base w.state t more) ∙ slot-stack base w stack at slot n.is found))

    damaged-as : damaged_at base (replay base (w.entries ++ e ∷ [])) stack at (latest (replay base (w.entries ++ e ∷ [])))
        ≡ marks base t stack at (latest t)
    damaged-as =
        ap (λ s. damaged_at base s stack at (latest s)) (sym n.enters.replayed)
        ∙ sym (ap (λ b. b || damaged_at base t stack at (latest t)) stayed)

    go : (b : Bool) → marks base t stack at (latest t) ≡ b
        → SlotIsExact base (w.entries ++ e ∷ []) stack at (cond b (mark_slot (latest t) slot) slot)
    go true m =
        let next = more.next in
        let old : latest (replay base w.entries) ≡ latest w.state = ap latest (sym n.is.replayed) in
        let good : latest (replay base w.entries) ≡ latest t - 1 = omega arith in
        let E : ℕ → ℕ → Type 0 = λ g k. IsExactSlot base (w.entries
        ++ e ∷ []) stack at slot.picture (cond slot.marked slot.good_to g) true k in
        subst (λ k. E (latest t - 1) k) (ap latest (sym n.enters.replayed))
        (subst (λ g. E g (latest (replay base (w.entries ++ e ∷ [])))) good
        (exact-marked base w.entries e stack at slot.picture slot.good_to slot.marked slot.marked_at n.is.legal.run
        (plain-step base w e n) was change there (damaged-as ∙ m)))
    go false m =
        exact-stays base w.entries e stack at slot.picture slot.good_to slot.marked slot.marked_at n.within n.is.legal.run
        (plain-step base w e n) was silent there
        ((λ i. change i && (damaged-as ∙ m) i))

-- every slot
cache-exact : (base : Document) (w : World) (e : Entry) (stack : ℕ) (at : TileAt) (slot : Slot) → IsNext base w e
    → OneMore base w.state (after_entry base w.state e) → is_changed e.reply ≡ true → shown_version e.kind e.reply stack at ≡ None
    → slot_of (cache_after base w.state (after_entry base w.state e) w.cache) stack at ≡ Some slot
    → SlotIsExact base (w.entries ++ e ∷ []) stack at slot
cache-exact base w e stack at slot n more change silent found =
    go (has_stack old stack) (has_stack new stack) (slots_of w.cache stack) refl refl refl
    (sym (ap (option_and_then (λ k. slot_at k at)) (slots_of-between base old new cause (latest t) w.cache stack)) ∙ found)
  where
    t : State
    t = after_entry base w.state e

    old : Document
    old = document_now base w.state

    new : Document
    new = document_now base t

    cause : Option Cause
    cause = slice_get t.causes (latest t - 1)

    staying : (slots : Slots) (o : Option Slot) → slots_of w.cache stack ≡ Some slots → has_stack new stack ≡ true
        → slot_at slots at ≡ o → is_some o ≡ true
        → slot_at (mark_slots (rects_of cause stack) (latest t) slots) at ≡ Some slot
        → SlotIsExact base (w.entries ++ e ∷ []) stack at slot
    staying slots None r has p some f = absurd (true≢false (sym some))
    staying slots (Some x) r has p some f =
        let here : slot_of w.cache stack at ≡ Some x = ap (option_and_then (λ k. slot_at k at)) r ∙ p in
        let is : slot ≡ slot_after base t stack at x =
        subst (λ o. SlotIsMarked base t stack at o slot) here (exact-slot base w t stack at slots slot n.is more r f) in
        subst (SlotIsExact base (w.entries ++ e ∷ []) stack at) (sym is)
        (version-exact base w e stack at x n more change silent here has)

    some-kept : (f : Slot → Slot) (o : Option Slot) → option_map f o ≡ Some slot → is_some o ≡ true
    some-kept f None q = ap is_some q
    some-kept f (Some x) q = refl

    go : (was has : Bool) (o : Option Slots) → has_stack old stack ≡ was → has_stack new stack ≡ has → slots_of w.cache stack ≡ o
        → option_and_then (λ k. slot_at k at)
        (cond (not was && has) (Some (blank_slots base.width base.height (latest t)))
        (option_map (mark_slots (rects_of cause stack) (latest t)) (cond has o None))) ≡ Some slot
        → SlotIsExact base (w.entries ++ e ∷ []) stack at slot
    go false true o p q r f =
        let gone : has_stack (document_of base w.entries (latest (replay base w.entries))) stack ≡ false =
        ap (λ s. has_stack (document_now base s) stack) (sym n.is.replayed) ∙ p in
        let there : has_stack (document_of base (w.entries ++ e ∷ []) (latest (replay base (w.entries ++ e ∷ [])))) stack ≡ true =
        ap (λ s. has_stack (document_now base s) stack) (sym n.enters.replayed) ∙ q in
        subst (SlotIsExact base (w.entries ++ e ∷ []) stack at) (sym (slot_at-blank base.width base.height (latest t) at slot f))
        (subst (λ k. IsExactSlot base (w.entries ++ e ∷ []) stack at None 0 true k) (ap latest (sym n.enters.replayed))
        (exact-new base w.entries e stack at 0 n.is.legal.run (plain-step base w e n) change gone there))
    go true true (Some slots) p q r f =
        staying slots (slot_at slots at) r q refl (some-kept _ (slot_at slots at) (sym (slot_at-changed _ slots at) ∙ f)) f
    go true true None p q r f = absurd (true≢false (sym (ap is_some f)))
    go true false o p q r f = absurd (true≢false (sym (ap is_some f)))
    go false false o p q r f = absurd (true≢false (sym (ap is_some f)))

-- an entry that makes a version
pub changes-exact : (base : Document) (w : World) (e : Entry) → IsNext base w e → is_changed e.reply ≡ true
    → ((stack : ℕ) (at : TileAt) → shown_version e.kind e.reply stack at ≡ None)
    → SlotsAreExact base (record (with_entry base w e) { cache = cache_after base w.state (after_entry base w.state e) w.cache })
changes-exact base w e n change silent stack at slot found =
    let next : latest (after_entry base w.state e) ≡ suc (latest w.state) = n.enters.versions
    ∙ (ap (λ b. latest w.state + cond b 1 0) change
    ∙ (let one_more : latest w.state + 1 ≡ suc (latest w.state) = omega arith in one_more)) in
    cache-exact base w e stack at slot n (record { lasts = n.enters.lasts; next = next }) change (silent stack at) found
