-- Which tile is clean, said by the history alone.
use Rattle.std.proofs.Common.{◌≡◌, ℕ, ◌≤◌, Bool, true, false, not, List, refl, sym, ◌∙◌, ap, subst, true≢false}
use Rattle.std.specs.Prelude.{Option, Some, None, is_some, IfSome, IsSomeAnd, option_map, option_and_then, unwrap_or}
use Rattle.spec_document.specs.declared.TileAt.{TileAt}
use Rattle.spec_document.specs.Document.{Document}
use Rattle.spec_cache.specs.Slots.{Slot, shown_by}
use Rattle.spec_cache.specs.Cache as cache
use Rattle.spec_cache.specs.Cache.{Cache, slot_of, is_clean}
use Rattle.spec_history.specs.Machine as machine
use Rattle.spec_history.specs.Machine.{Call, State, latest}
use Rattle.spec_history.specs.History.{Entry, replay, latest_of}
use Rattle.spec_history.specs.Kept.{last_tile, kept_in, kept}
use Rattle.spec_history.proofs.KeptSame.{KeptTo, kept_to}
use Rattle.spec_history.proofs.Versions.{latest_of-legal}
use Rattle.spec_world.specs.RightSlot.{IsRightSlot}
use Rattle.spec_world.specs.Standing.{IsStanding}
use Rattle.spec_world.proofs.Standing.{seen-bound}
use Rattle.spec_world.proofs.Submitted.{keeps-enough}
use Rattle.spec_standing.specs.History.{NeedsNoStep}
use Rattle.xl_desk.specs.Needs.{TakesNoStep}
use Rattle.spec_standing.specs.Now.{Now, world_of, Stands}

-- a slot is clean where the last version is kept of its tile
clean_slot : (base : Document) (s : State) (stack : ℕ) (at : TileAt) (last : Option ℕ) (slot : Slot)
    → IfSome last (λ a. a ≤ latest s) → IsRightSlot base s stack at last slot
    → kept_in base s stack at last ≡ Some (latest s) → slot.marked ≡ false
clean_slot base s stack at None slot seen right is = absurd (true≢false (sym (ap is_some is)))
clean_slot base s stack at (Some a) slot seen right is =
    go slot.marked refl (subst (λ o. IfSome o (KeptTo base s stack at a)) is (kept_to base s stack at a seen))
  where
    go : (b : Bool) → slot.marked ≡ b → KeptTo base s stack at a (latest s) → slot.marked ≡ false
    go false e to = e
    go true e to =
        let good = (right.enough a refl to.there e).1 in
        absurd (true≢false (sym good.damaged ∙ to.whole good.version good.later good.there))

pub kept_clean : (base : Document) (entries : List Entry) (kept_tiles : Cache) (stack : ℕ) (at : TileAt)
    → IsStanding base (world_of base entries kept_tiles)
    → kept base entries stack at ≡ Some (latest_of entries) → is_clean kept_tiles stack at ≡ true
kept_clean base entries kept_tiles stack at is last =
    go (slot_of kept_tiles stack at) refl
    (subst (λ o. IfSome o (λ least. IsSomeAnd (cache.kept kept_tiles stack at (latest s)) (λ k. least ≤ k.version))) now
    (keeps-enough base (world_of base entries kept_tiles) stack at is))
  where
    s : State
    s = replay base entries

    now : kept base entries stack at ≡ Some (latest s)
    now = last ∙ ap Some (latest_of-legal base entries is.legal)

    go : (o : Option Slot) → slot_of kept_tiles stack at ≡ o
        → IsSomeAnd (option_and_then (shown_by (latest s)) o) (λ k. latest s ≤ k.version)
        → unwrap_or (option_map (λ slot. not slot.marked) o) false ≡ true
    go None e some = absurd some
    go (Some slot) e some = ap not (clean_slot base s stack at (last_tile stack at entries) slot
        (seen-bound base s at (last_tile stack at entries) (is.seen stack at)) (is.each stack at slot e) now)

-- so a call that needs no step takes none
pub needs_none : (base : Document) (entries : List Entry) (now : Now) (made : List ℕ) (call : Call) → Stands base entries now made
    → NeedsNoStep (record { base = base; entries = entries }) call → TakesNoStep now.cache call
needs_none base entries now made (machine.tile stack at) stands needs =
    kept_clean base entries now.cache stack at stands.pictures needs
needs_none base entries now made (machine.edit guard edits) stands needs = tt
needs_none base entries now made (machine.undo named) stands needs = tt
needs_none base entries now made machine.redo stands needs = tt
needs_none base entries now made (machine.peek stack at) stands needs = tt
needs_none base entries now made machine.top stands needs = tt
