-- What clean slots show, and what a tile that is shown leaves.
use Rattle.std.proofs.Common.{◌≡◌, ℕ, ◌≤◌, Bool, true, false, cond, not, nat_lt, List, refl, sym, ◌∙◌, ap, subst, true≢false, arith}
use Rattle.std.specs.Prelude.{Option, Some, None, IfSome, is_some, option_map, option_and_then, unwrap_or}
use Rattle.std.proofs.lemmas.Bool.Decides.{nat_tests}
use Rattle.spec_document.specs.declared.TileAt.{TileAt}
use Rattle.spec_document.specs.Grid.{is_on_grid}
use Rattle.spec_document.specs.Document.{Document}
use Rattle.spec_document.specs.Picture.{project}
use Rattle.spec_cache.specs.declared.Finished.TheVariants.{Installed, Late}
use Rattle.spec_cache.specs.Slots.{Slot, Slots, slot_at, change_slot}
use Rattle.spec_cache.specs.Cache.{Cache, Place, slots_of, slot_of, is_clean, clean_tile, change_stack, finish_at}
use Rattle.spec_cache.specs.Cache.{finish, put_where, install, next_place, with_last, after_take}
use Rattle.spec_cache.proofs.Found.{canvas-found, slot-there}
use Rattle.spec_history.specs.Machine.{has_stack, no_stack, outside_tile, tile_of}
use Rattle.spec_world.specs.Events.{show_slot}
use Rattle.xl_compose.specs.Job.{AreClean}
use Rattle.spec_standing.specs.Now.{Now, Response, Gives, stays, shown, with_tile, with_cache, IsKept}
use Rattle.spec_standing.proofs.OneSlot.{shown-clean, shown-marked}

is_this : {A : Type 0} (x y : A) → Some x ≡ Some y → x ≡ y
is_this x y e = ap (λ o. unwrap_or o x) e

-- a picture that is given is the document's
pub clean-is : (d : Document) (cache : Cache) (version : ℕ) (stack : ℕ) (at : TileAt) (bytes : List ℕ) → IsKept d cache version
    → clean_tile cache stack at ≡ Some bytes
    → bytes ≡ project d stack at
clean-is d cache version stack at bytes is found = go (slot_of cache stack at) refl found
  where
    of_slot : (slot : Slot) (b : Bool) → slot.marked ≡ b → (slot.marked ≡ false → slot.picture ≡ Some (project d stack at))
        → cond b None slot.picture ≡ Some bytes → bytes ≡ project d stack at
    of_slot slot true e clean q = absurd (true≢false (sym (ap is_some q)))
    of_slot slot false e clean q = is_this bytes (project d stack at) (sym q ∙ clean e)

    go : (o : Option Slot) → slot_of cache stack at ≡ o → option_and_then (λ s. cond s.marked None s.picture) o ≡ Some bytes
        → bytes ≡ project d stack at
    go None p q = absurd (true≢false (sym (ap is_some q)))
    go (Some slot) p q = of_slot slot slot.marked refl (is.clean stack at slot p) q

-- so a job may take them
pub are_clean : (d : Document) (cache : Cache) (version : ℕ) (at : TileAt) → IsKept d cache version
    → AreClean (clean_tile cache) d at
are_clean d cache version at is = λ group bytes first has found. clean-is d cache version group at bytes is found

-- what was copied is the document's
pub copied_is : (d : Document) (cache : Cache) (version : ℕ) (stack : ℕ) (at : TileAt) (out : List ℕ) → IsKept d cache version
    → is_some (clean_tile cache stack at) ≡ true
    → IfSome (clean_tile cache stack at) (λ bytes. out ≡ bytes) → out ≡ project d stack at
copied_is d cache version stack at out is some copied = go (clean_tile cache stack at) refl some copied
  where
    go : (o : Option (List ℕ)) → clean_tile cache stack at ≡ o → is_some o ≡ true → IfSome o (λ bytes. out ≡ bytes)
        → out ≡ project d stack at
    go None p q h = absurd (true≢false (sym q))
    go (Some bytes) p q h = h ∙ clean-is d cache version stack at bytes is p

-- where there is none, the slot is not clean
pub marked-where : (d : Document) (cache : Cache) (version : ℕ) (stack : ℕ) (at : TileAt) → IsKept d cache version
    → is_some (clean_tile cache stack at) ≡ false → is_clean cache stack at ≡ false
marked-where d cache version stack at is none = go (slot_of cache stack at) refl none
  where
    of_slot : (slot : Slot) (b : Bool) → slot.marked ≡ b → (slot.marked ≡ false → slot.picture ≡ Some (project d stack at))
        → is_some (cond b None slot.picture) ≡ false → not b ≡ false
    of_slot slot true e clean q = refl
    of_slot slot false e clean q = absurd (true≢false (sym (ap is_some (clean e)) ∙ q))

    go : (o : Option Slot) → slot_of cache stack at ≡ o → is_some (option_and_then (λ s. cond s.marked None s.picture) o) ≡ false
        → unwrap_or (option_map (λ s. not s.marked) o) false ≡ false
    go None p q = refl
    go (Some slot) p q = of_slot slot slot.marked refl (is.clean stack at slot p) q

-- and where there is one, it is
pub clean-where : (cache : Cache) (stack : ℕ) (at : TileAt) → is_some (clean_tile cache stack at) ≡ true
    → is_clean cache stack at ≡ true
clean-where cache stack at some = go (slot_of cache stack at) some
  where
    of_slot : (slot : Slot) (b : Bool) → is_some (cond b None slot.picture) ≡ true → not b ≡ true
    of_slot slot true q = absurd (true≢false (sym q))
    of_slot slot false q = refl

    go : (o : Option Slot) → is_some (option_and_then (λ s. cond s.marked None s.picture) o) ≡ true
        → unwrap_or (option_map (λ s. not s.marked) o) false ≡ true
    go None q = absurd (true≢false (sym q))
    go (Some slot) q = of_slot slot slot.marked q

-- a picture of this version is kept
installs-now : (d : Document) (cache : Cache) (version : ℕ) (stack : ℕ) (at : TileAt) → IsKept d cache version
    → has_stack d stack ≡ true → is_on_grid d.width d.height at ≡ true
    → finish cache (record { stack = stack; at = at }) version ≡ Installed
installs-now d cache version stack at is has on =
    go (slot_of cache stack at) refl (there (slots_of cache stack) refl (is.of.stacks stack ∙ has))
  where
    there : (o : Option Slots) → slots_of cache stack ≡ o → is_some o ≡ true
        → is_some (option_and_then (λ k. slot_at k at) o) ≡ true
    there None p e = absurd (true≢false (sym e))
    there (Some slots) p e =
        slot-there d.width d.height slots at (canvas-found d.width d.height cache.held stack slots is.of.slots.of_canvas p) on

    late : (marked_at : ℕ) → marked_at ≤ version → cond (nat_lt version marked_at) (Late marked_at) Installed ≡ Installed
    late marked_at le =
        let before : nat_lt version marked_at ≡ false = grind (arith, nat_tests, le) in
        ap (λ b. cond b (Late marked_at) Installed) before

    go : (o : Option Slot) → slot_of cache stack at ≡ o → is_some o ≡ true → finish_at version o ≡ Installed
    go None p e = absurd (true≢false (sym e))
    go (Some slot) p e = late slot.marked_at (is.marks stack at slot p)

-- ---- what a tile that is shown leaves

-- a clean slot stays
pub shows-clean : (d : Document) (cache : Cache) (version : ℕ) (stack : ℕ) (at : TileAt) → IsKept d cache version
    → is_some (clean_tile cache stack at) ≡ true
    → cache ≡ change_stack stack (change_slot at (show_slot (project d stack at))) cache
shows-clean d cache version stack at is some =
    sym (shown-clean d.width d.height cache stack at (project d stack at) is.of.slots (clean-where cache stack at some))

-- a marked slot is filled
pub shows-marked : (d : Document) (old new : Cache) (version : ℕ) (place : Place) (named : ℕ) (picture : List ℕ)
    → IsKept d old version → has_stack d place.stack ≡ true
    → is_on_grid d.width d.height place.at ≡ true → is_some (clean_tile old place.stack place.at) ≡ false → named ≡ version
    → picture ≡ project d place.stack place.at
    → new ≡ install place named picture old
    → new ≡ change_stack place.stack (change_slot place.at (show_slot (project d place.stack place.at))) old
shows-marked d old new version place named picture is has on none same shows came =
    came
    ∙ ((λ i. install place (same i) (shows i) old)
    ∙ (ap (λ f. put_where f place (project d place.stack place.at) old) (installs-now d old version place.stack place.at is has on)
    ∙ sym (shown-marked d.width d.height old place.stack place.at (project d place.stack place.at) is.of.slots
    (marked-where d old version place.stack place.at is none))))

-- a marked slot is filled by what composing a job of the tile gave
pub shows-done : (d : Document) (old new : Cache) (version : ℕ) (stack : ℕ) (at : TileAt) (place : Place) (named : ℕ)
    (picture : List ℕ) → IsKept d old version → has_stack d stack ≡ true
    → is_on_grid d.width d.height at ≡ true → is_some (clean_tile old stack at) ≡ false → place.stack ≡ stack → place.at ≡ at
    → named ≡ version → picture ≡ project d stack at
    → new ≡ install place named picture old → new ≡ change_stack stack (change_slot at (show_slot (project d stack at))) old
shows-done d old new version stack at place named picture is has on none same_stack same_at same shows came =
    shows-marked d old new version (record { stack = stack; at = at }) named picture is has on none same shows
    (came ∙ (λ i. install (record { stack = same_stack i; at = same_at i }) named picture old))

-- ---- what a tile that is taken leaves

-- all but the place that was taken last
pub kept-taken : (d : Document) (cache : Cache) (version : ℕ) → IsKept d cache version → IsKept d (after_take cache) version
kept-taken d cache version is = go (next_place cache)
  where
    go : (o : Option Place) → IsKept d (with_last o cache) version
    go None = is
    go (Some p) = record {
      of = record { slots = record { in_order = is.of.slots.in_order; of_canvas = is.of.slots.of_canvas }; stacks = is.of.stacks };
      clean = is.clean;
      marks = is.marks;
    }

-- so a job may take the clean pictures then too
pub are_clean_taken : (d : Document) (old new : Cache) (version : ℕ) (at : TileAt) → IsKept d old version → new ≡ after_take old
    → AreClean (clean_tile new) d at
are_clean_taken d old new version at is took =
    subst (λ cache. AreClean (clean_tile cache) d at) (sym took)
    (are_clean d (after_take old) version at (kept-taken d old version is))

-- what is told of a tile that is there
pub response-tile : (now : Now) (cache : Cache) (stack : ℕ) (at : TileAt) → not (has_stack now.document stack) ≡ false
    → not (is_on_grid now.document.width now.document.height at) ≡ false
    → cache ≡ change_stack stack (change_slot at (show_slot (project now.document stack at))) now.cache
    → Gives (shown now stack at) (tile_of now.version) (with_cache now cache)
response-tile now cache stack at has on is =
    let there : Response = record { reply = tile_of now.version; now = with_tile now stack at } in
    let same : shown now stack at ≡ there =
    ap (λ b. cond b (stays now (no_stack stack))
    (cond (not (is_on_grid now.document.width now.document.height at)) (stays now outside_tile) there)) has
    ∙ ap (λ b. cond b (stays now outside_tile) there) on in
    (ap (λ t. t.reply) (sym same), ap (with_cache now) is ∙ ap (λ t. t.now) (sym same))
