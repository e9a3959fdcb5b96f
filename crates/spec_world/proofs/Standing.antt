-- What holds of a world after each event.
use Rattle.std.proofs.Common.{◌≡◌, ℕ, ◌+◌, ◌≤◌, Bool, true, false, cond, ◌&&◌, ◌==◌, List, [], ◌∷◌, ◌++◌, refl, sym}
use Rattle.std.proofs.Common.{◌∙◌, ap, subst, true≢false, arith}
use Rattle.std.specs.Prelude.{Option, Some, None, IfSome, is_some, option_map, unwrap_or}
use Rattle.std.specs.List.{AllByRecursion}
use Rattle.std.proofs.lemmas.Bool.{and_parts, and_left, and_right, eqb-true}
use Rattle.spec_document.specs.declared.TileAt.{TileAt}
use Rattle.spec_document.specs.Grid.{same_tile}
use Rattle.spec_document.specs.Document.{Document}
use Rattle.spec_cache.specs.Slots.{Slot, Slots, change_slot}
use Rattle.spec_cache.specs.Cache.{Cache, slots_of, has_slots, slot_of, change_stack}
use Rattle.spec_cache.proofs.Found.{slots_of-changed, slot_of-changed}
use Rattle.spec_history.specs.Machine.{State, latest, document_at, has_stack}
use Rattle.spec_history.specs.History.{Entry, after_entry, is_changed}
use Rattle.spec_history.specs.Kept.{last_tile, or_earlier, shown_version}
use Rattle.spec_history.proofs.Bounds.{last_tile-snoc}
use Rattle.spec_world.specs.World.{World, Job, document_now}
use Rattle.spec_world.specs.Events.{with_entry}
use Rattle.spec_world.specs.Right.{IsJob}
use Rattle.spec_world.specs.Standing.{WasShown, IsStanding}
use Rattle.spec_world.specs.RightSlot.{IsRightSlot}
use Rattle.spec_world.proofs.Lasting.{Lasts, stack-lasts}
use Rattle.spec_world.proofs.SlotLaws.{right-lasts}
use Rattle.spec_world.proofs.Entered.{Enters}

-- ---- what stays

pub now-same : (base : Document) (s t : State) → Lasts base s t → latest t ≡ latest s → document_now base t ≡ document_now base s
now-same base s t l same = ap (document_at base t) same ∙ l.documents (latest s) (omega arith)

pub shown-lasts : (base : Document) (s t : State) (at : TileAt) (last : Option ℕ) → latest s ≤ latest t
    → IfSome last (WasShown base s at) → IfSome last (WasShown base t at)
shown-lasts base s t at None le h = tt
shown-lasts base s t at (Some v) le h = let there = h.there in record { there = omega arith; on_grid = h.on_grid }

pub jobs-last : (base : Document) (s t : State) (jobs : List Job) → Lasts base s t → AllByRecursion (IsJob base s) jobs
    → AllByRecursion (IsJob base t) jobs
jobs-last base s t [] l all = tt
jobs-last base s t (job ∷ jobs) l all =
    let within = all.0.version in
    let more = l.versions in (
      record {
        version = omega arith;
        has = stack-lasts base s t job.stack job.version l within ∙ all.0.has;
        on_grid =
            all.0.on_grid;
      },
      jobs-last base s t jobs l all.1,
    )

-- where an entry shows no tile, the last tile call is as before
pub last-same : (stack : ℕ) (at : TileAt) (es : List Entry) (e : Entry) → shown_version e.kind e.reply stack at ≡ None
    → last_tile stack at (es ++ e ∷ []) ≡ last_tile stack at es
last-same stack at es e same = last_tile-snoc stack at es e ∙ ap (λ o. or_earlier o (last_tile stack at es)) same

pub seen-bound : (base : Document) (s : State) (at : TileAt) (last : Option ℕ) → IfSome last (WasShown base s at)
    → IfSome last (λ a. a ≤ latest s)
seen-bound base s at None h = tt
seen-bound base s at (Some v) h = h.there

-- ---- an entry that makes no version and shows no tile

pub standing-entry : (base : Document) (w : World) (e : Entry) → IsStanding base w
    → Enters base w.entries e w.state (after_entry base w.state e)
    → is_changed e.reply ≡ false → ((stack : ℕ) (at : TileAt) → shown_version e.kind e.reply stack at ≡ None)
    → IsStanding base (with_entry base w e)
standing-entry base w e is enters unchanged silent =
    let t : State = after_entry base w.state e in
    let same : latest t ≡ latest w.state = enters.versions
    ∙ (ap (λ b. latest w.state + cond b 1 0) unchanged
    ∙ (let zero_more : latest w.state + 0 ≡ latest w.state = omega arith in zero_more)) in
    record {
      legal = enters.legal;
      replayed = enters.replayed;
      slots = is.slots;
      stacks = λ stack. is.stacks stack ∙ ap (λ d. has_stack d stack) (sym (now-same base w.state t enters.lasts same));
      seen = λ stack at. subst (λ o. IfSome o (WasShown base t at)) (sym (last-same stack at w.entries e (silent stack at)))
          (shown-lasts base w.state t at (last_tile stack at w.entries) enters.lasts.versions (is.seen stack at));
      each = λ stack at slot found. subst (λ o. IsRightSlot base t stack at o slot)
          (sym (last-same stack at w.entries e (silent stack at)))
          (right-lasts base w.state t stack at (last_tile stack at w.entries) slot enters.lasts same (is.each stack at slot found));
      jobs = jobs-last base w.state t w.jobs enters.lasts is.jobs;
    }

-- ---- a change of one slot

pub same-tile : (a b : TileAt) → same_tile a b ≡ true → a ≡ b
same-tile a b e =
    let parts = and_parts (a.col == b.col) (a.row == b.row) e in
    λ i. record { col = eqb-true a.col b.col parts.0 i; row = eqb-true a.row b.row parts.1 i }

-- what the slots are after the slot of one tile was changed
pub changed-slot : (stack k : ℕ) (at place : TileAt) (change : Slot → Slot) (cache : Cache) (slot : Slot) (P : Slot → Type 0)
    → slot_of (change_stack k (change_slot place change) cache) stack at ≡ Some slot
    → ((old : Slot) → slot_of cache stack at ≡ Some old → (stack == k) ≡ true → same_tile at place ≡ true → P (change old))
    → ((old : Slot) → slot_of cache stack at ≡ Some old → ((stack == k) && same_tile at place) ≡ false → P old)
    → P slot
changed-slot stack k at place change cache slot P found here there =
    go (slot_of cache stack at) (stack == k) (same_tile at place) refl refl refl
    (sym (slot_of-changed k (λ tile slot. cond (same_tile tile place) (change slot) slot) cache stack at) ∙ found)
  where
    go : (o : Option Slot) (b c : Bool) → slot_of cache stack at ≡ o → (stack == k) ≡ b → same_tile at place ≡ c
        → option_map (λ x. cond b (cond c (change x) x) x) o ≡ Some slot → P slot
    go None b c p q r e = absurd (true≢false (sym (ap is_some e)))
    go (Some old) true true p q r e = subst P (ap (λ o. unwrap_or o slot) e) (here old p q r)
    go (Some old) true false p q r e =
        subst P (ap (λ o. unwrap_or o slot) e) (there old p (and_right (stack == k) (same_tile at place) r))
    go (Some old) false c p q r e =
        subst P (ap (λ o. unwrap_or o slot) e) (there old p (and_left (stack == k) (same_tile at place) q))

-- the stacks that have slots are the same
pub same-stacks : (k : ℕ) (change : Slots → Slots) (cache : Cache) (stack : ℕ)
    → has_slots (change_stack k change cache) stack ≡ has_slots cache stack
same-stacks k change cache stack = ap is_some (slots_of-changed k change cache stack) ∙ is_some-map (slots_of cache stack)
  where
    is_some-map : (o : Option Slots) → is_some (option_map (λ s. cond (stack == k) (change s) s) o) ≡ is_some o
    is_some-map None = refl
    is_some-map (Some s) = refl
