-- A new version leaves a world that stands.
use Rattle.std.proofs.Common.{◌≡◌, ℕ, suc, ◌+◌, ◌-◌, Bool, true, false, cond, not, ◌&&◌, ◌||◌, map, filter, refl, sym}
use Rattle.std.proofs.Common.{◌∙◌, ap, subst, true≢false, arith}
use Rattle.std.specs.Prelude.{Option, Some, None, IfSome, is_some, option_map, option_and_then, unwrap_or, slice_get}
use Rattle.std.specs.List.{list_any}
use Rattle.std.proofs.lemmas.Bool.{and_right}
use Rattle.spec_document.specs.declared.TileAt.{TileAt}
use Rattle.spec_document.specs.Rect.{do_meet}
use Rattle.spec_document.specs.Grid.{tile_rect}
use Rattle.spec_document.specs.Document.{Document}
use Rattle.spec_cache.specs.Slots.{Slot, Slots, AreOfCanvas, blank_slots, slot_at, mark_slot, mark_slots}
use Rattle.spec_cache.specs.Cache.{Cache, IsCache, slots_of, has_slots, slot_of}
use Rattle.spec_cache.proofs.Found.{slots_in-map, slots_in-filter, slot_at-changed, slot_at-blank, canvas-found}
use Rattle.spec_cache.proofs.Order.{is_cache-map, is_cache-filter, of_canvas-changed}
use Rattle.spec_history.specs.Machine.{State, Cause, latest, document_at, has_stack}
use Rattle.spec_history.specs.History.{Entry, after_entry, is_changed}
use Rattle.spec_history.specs.Kept.{last_tile, shown_version, cause_meets, damaged_at}
use Rattle.spec_world.specs.World.{World, document_now, stack_ids, rects_of, mark_held, cache_between, cache_after}
use Rattle.spec_world.specs.Events.{with_entry}
use Rattle.spec_history.specs.Marks.{came_at, marks}
use Rattle.spec_world.specs.Right.{slot_after}
use Rattle.spec_world.specs.RightSlot.{DamageIsSound, IsRightSlot}
use Rattle.spec_world.proofs.SlotLaws.{OneMore, before, right-came, right-version}
use Rattle.spec_world.proofs.Entered.{Enters}
use Rattle.spec_world.specs.Standing.{WasShown, IsStanding}
use Rattle.spec_world.proofs.Standing.{last-same, shown-lasts, jobs-last, seen-bound}
use Rattle.spec_world.proofs.Stacks.{came-listed, slots_of-added, is_cache-all-added}

-- whether some rectangle of a group behind a version meets a tile
abbrev pub meets : Option Cause → (stack : ℕ) → (w h : ℕ) → TileAt → Bool
meets cause stack w h at = list_any (λ r. do_meet r (tile_rect w h at)) (rects_of cause stack)

pub meets-same : (cause : Option Cause) (stack w h : ℕ) (at : TileAt) → meets cause stack w h at ≡ cause_meets stack w h at cause
meets-same None stack w h at = refl
meets-same (Some c) stack w h at = refl

pub or-none : (b c : Bool) → b ≡ false → (b || c) ≡ c
or-none b c e = ap (λ x. x || c) e

-- the slots of the stacks that stay, marked
staying : Document → Option Cause → (version : ℕ) → Cache → Cache
staying new cause version cache =
    record cache { held = map (mark_held cause version) (filter (λ h. has_stack new h.stack) cache.held) }

slots_of-staying : (new : Document) (cause : Option Cause) (version : ℕ) (cache : Cache) (stack : ℕ)
    → slots_of (staying new cause version cache) stack
    ≡ option_map (mark_slots (rects_of cause stack) version) (cond (has_stack new stack) (slots_of cache stack) None)
unfolding staying
slots_of-staying new cause version cache stack =
    slots_in-map (mark_held cause version) (λ k s. mark_slots (rects_of cause k) version s) (λ h. refl) (λ h. refl)
    (filter (λ h. has_stack new h.stack) cache.held) stack
    ∙ ap (option_map (mark_slots (rects_of cause stack) version)) (slots_in-filter (has_stack new) cache.held stack)

-- all stacks
pub slots_of-between : (base old new : Document) (cause : Option Cause) (version : ℕ) (cache : Cache) (stack : ℕ)
    → slots_of (cache_between base old new cause version cache) stack
    ≡ cond (not (has_stack old stack) && has_stack new stack) (Some (blank_slots base.width base.height version))
    (option_map (mark_slots (rects_of cause stack) version) (cond (has_stack new stack) (slots_of cache stack) None))
unfolding staying
slots_of-between base old new cause version cache stack =
    slots_of-added base version (filter (λ k. not (has_stack old k)) (stack_ids new)) (staying new cause version cache) stack
    ∙ (λ i. cond (came-listed old new stack i) (Some (blank_slots base.width base.height version))
    (slots_of-staying new cause version cache stack i))

is_cache-between : (base old new : Document) (cause : Option Cause) (version : ℕ) (cache : Cache)
    → IsCache base.width base.height cache
    → IsCache base.width base.height (cache_between base old new cause version cache)
is_cache-between base old new cause version cache is =
    let stay : Cache = record cache { held = filter (λ h. has_stack new h.stack) cache.held } in
    is_cache-all-added base version (filter (λ k. not (has_stack old k)) (stack_ids new))
    (record stay { held = map (mark_held cause version) stay.held })
    (is_cache-map base.width base.height (mark_held cause version) stay (λ h. refl)
    (λ h of_canvas. of_canvas-changed base.width base.height
    (λ tile slot. cond (meets cause h.stack h.slots.width h.slots.height tile) (mark_slot version slot) slot) h.slots of_canvas)
    (is_cache-filter base.width base.height (λ h. has_stack new h.stack) cache is))

stacks-between : (base old new : Document) (cause : Option Cause) (version : ℕ) (cache : Cache) (stack : ℕ)
    → has_slots cache stack ≡ has_stack old stack
    → has_slots (cache_between base old new cause version cache) stack ≡ has_stack new stack
stacks-between base old new cause version cache stack same =
    ap is_some (slots_of-between base old new cause version cache stack)
    ∙ go (has_stack old stack) (has_stack new stack) (slots_of cache stack) same
  where
    go : (was is : Bool) (o : Option Slots) → is_some o ≡ was
        → is_some (cond (not was && is) (Some (blank_slots base.width base.height version))
        (option_map (mark_slots (rects_of cause stack) version) (cond is o None))) ≡ is
    go true true None e = absurd (true≢false (sym e))
    go true true (Some s) e = refl
    go true false o e = refl
    go false true o e = refl
    go false false o e = refl

-- ---- one slot

-- the slot of a stack that stays is as the version leaves it
staying-slot : (base : Document) (w : World) (e : Entry) (stack : ℕ) (at : TileAt) (slots : Slots) (slot : Slot) → IsStanding base w
    → OneMore base w.state (after_entry base w.state e) → DamageIsSound base (after_entry base w.state e)
    → slots_of w.cache stack ≡ Some slots → has_stack (document_now base (after_entry base w.state e)) stack ≡ true
    → slot_at (mark_slots (rects_of (slice_get (after_entry base w.state e).causes (latest (after_entry base w.state e) - 1)) stack)
    (latest (after_entry base w.state e)) slots) at ≡ Some slot
    → IsRightSlot base (after_entry base w.state e) stack at (last_tile stack at w.entries) slot
staying-slot base w e stack at slots slot is more sound there has found =
    go (slot_at slots at) refl (sym (slot_at-changed change slots at) ∙ found)
  where
    s : State
    s = w.state

    t : State
    t = after_entry base w.state e

    cause : Option Cause
    cause = slice_get t.causes (latest t - 1)

    change : TileAt → Slot → Slot
    change tile slot = cond (meets cause stack slots.width slots.height tile) (mark_slot (latest t) slot) slot

    had : has_stack (document_now base s) stack ≡ true
    had = sym (is.stacks stack) ∙ ap is_some there

    of_canvas : AreOfCanvas base.width base.height slots
    of_canvas = canvas-found base.width base.height w.cache.held stack slots is.slots.of_canvas there

    stayed : came_at base t stack (latest t) ≡ false
    stayed = and_right (has_stack (document_now base t) stack) (not (has_stack (document_at base t (latest t - 1)) stack))
        (ap not (ap (λ d. has_stack d stack) (before base s t more) ∙ had))

    test : meets cause stack slots.width slots.height at ≡ marks base t stack at (latest t)
    test =
        (λ i. meets cause stack (of_canvas.width_is i) (of_canvas.height_is i) at)
        ∙ (meets-same cause stack base.width base.height at
        ∙ sym (or-none (came_at base t stack (latest t)) (damaged_at base t stack at (latest t)) stayed))

    go : (o : Option Slot) → slot_at slots at ≡ o → option_map (change at) o ≡ Some slot
        → IsRightSlot base t stack at (last_tile stack at w.entries) slot
    go None p q = absurd (true≢false (sym (ap is_some q)))
    go (Some x) p q =
        let here : slot_of w.cache stack at ≡ Some x = ap (option_and_then (λ k. slot_at k at)) there ∙ p in
        let right = right-version base s t stack at (last_tile stack at w.entries) x sound more
        (seen-bound base s at (last_tile stack at w.entries) (is.seen stack at)) had has (is.each stack at x here) in
        let same : slot_after base t stack at x ≡ slot = ap (λ b. cond b (mark_slot (latest t) x) x) (sym test)
        ∙ ap (λ o. unwrap_or o slot) q in
        subst (IsRightSlot base t stack at (last_tile stack at w.entries)) same right

changed-each : (base : Document) (w : World) (e : Entry) (stack : ℕ) (at : TileAt) (slot : Slot) → IsStanding base w
    → OneMore base w.state (after_entry base w.state e) → DamageIsSound base (after_entry base w.state e)
    → slot_of (cache_after base w.state (after_entry base w.state e) w.cache) stack at ≡ Some slot
    → IsRightSlot base (after_entry base w.state e) stack at (last_tile stack at w.entries) slot
changed-each base w e stack at slot is more sound found =
    go (has_stack old stack) (has_stack new stack) (slots_of w.cache stack) refl refl refl
    (sym (ap (option_and_then (λ k. slot_at k at)) (slots_of-between base old new cause (latest t) w.cache stack)) ∙ found)
  where
    t : State
    t = after_entry base w.state e

    old : Document
    old = document_now base w.state

    new : Document
    new = document_now base t

    cause : Option Cause
    cause = slice_get t.causes (latest t - 1)

    go : (was has : Bool) (o : Option Slots) → has_stack old stack ≡ was → has_stack new stack ≡ has → slots_of w.cache stack ≡ o
        → option_and_then (λ k. slot_at k at)
        (cond (not was && has) (Some (blank_slots base.width base.height (latest t)))
        (option_map (mark_slots (rects_of cause stack) (latest t)) (cond has o None))) ≡ Some slot
        → IsRightSlot base t stack at (last_tile stack at w.entries) slot
    go false true o p q r f =
        subst (IsRightSlot base t stack at (last_tile stack at w.entries))
        (sym (slot_at-blank base.width base.height (latest t) at slot f))
        (right-came base w.state t stack at (last_tile stack at w.entries) more
        (seen-bound base w.state at (last_tile stack at w.entries) (is.seen stack at)) p q)
    go true true (Some slots) p q r f = staying-slot base w e stack at slots slot is more sound r q f
    go true true None p q r f = absurd (true≢false (sym (ap is_some f)))
    go true false o p q r f = absurd (true≢false (sym (ap is_some f)))
    go false false o p q r f = absurd (true≢false (sym (ap is_some f)))

-- ---- the world

pub standing-version : (base : Document) (w : World) (e : Entry) → IsStanding base w
    → Enters base w.entries e w.state (after_entry base w.state e)
    → DamageIsSound base (after_entry base w.state e) → is_changed e.reply ≡ true
    → ((stack : ℕ) (at : TileAt) → shown_version e.kind e.reply stack at ≡ None)
    → IsStanding base (record (with_entry base w e) { cache = cache_after base w.state (after_entry base w.state e) w.cache })
standing-version base w e is enters sound changed silent =
    let t : State = after_entry base w.state e in
    let next : latest t ≡ suc (latest w.state) = enters.versions
    ∙ (ap (λ b. latest w.state + cond b 1 0) changed
    ∙ (let one_more : latest w.state + 1 ≡ suc (latest w.state) = omega arith in one_more)) in
    let more : OneMore base w.state t = record { lasts = enters.lasts; next = next } in
    record {
      legal = enters.legal;
      replayed = enters.replayed;
      slots = is_cache-between base (document_now base w.state) (document_now base t) (slice_get t.causes (latest t - 1))
          (latest t) w.cache is.slots;
      stacks = λ stack. stacks-between base (document_now base w.state) (document_now base t) (slice_get t.causes (latest t - 1))
          (latest t) w.cache stack (is.stacks stack);
      seen = λ stack at. subst (λ o. IfSome o (WasShown base t at)) (sym (last-same stack at w.entries e (silent stack at)))
          (shown-lasts base w.state t at (last_tile stack at w.entries) enters.lasts.versions (is.seen stack at));
      each = λ stack at slot found. subst (λ o. IsRightSlot base t stack at o slot)
          (sym (last-same stack at w.entries e (silent stack at)))
          (changed-each base w e stack at slot is more sound found);
      jobs = jobs-last base w.state t w.jobs enters.lasts is.jobs;
    }
