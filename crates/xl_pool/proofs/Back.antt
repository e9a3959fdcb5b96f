-- Where a change leads to, and back from there.
use Rattle.std.proofs.Common.{◌≡◌, ℕ, Bool, true, false, cond, not, ◌&&◌, ◌||◌, List, map, filter, refl, sym, ◌∙◌, ap, subst}
use Rattle.std.specs.Prelude.{Option, Some, is_some}
use Rattle.std.specs.List.{list_any}
use Rattle.spec_document.specs.Rect.{do_meet}
use Rattle.spec_document.specs.Grid.{tile_rect}
use Rattle.spec_document.specs.Document.{Document}
use Rattle.spec_damage.specs.Damage.{Pair}
use Rattle.spec_cache.specs.Slots.{Slots, blank_slots, mark_slot}
use Rattle.spec_cache.specs.Cache.{Cache, IsCache, no_slots, slots_of, has_slots}
use Rattle.spec_cache.proofs.Order.{is_cache-map, is_cache-filter, of_canvas-changed}
use Rattle.spec_history.specs.Machine.{has_stack}
use Rattle.spec_world.specs.World.{stack_ids, add_stacks}
use Rattle.spec_world.proofs.Stacks.{has_id, stacks-listed, came-listed, slots_of-added, is_cache-all-added}
use Rattle.spec_standing.specs.Change as change
use Rattle.spec_standing.specs.Change.{came_to, change_between, turned, gone_along, with_stacks, rects_in, IsCacheOf}
use Rattle.spec_standing.specs.Change.{LeadsBack, BeginsWithItsCache}
use Rattle.xl_pool.proofs.Between.{mark_by}
use Rattle.xl_pool.proofs.InTurn.{staying, has-staying, left-cache}

some-either : (b : Bool) (slots : Slots) (rest : Option Slots) → is_some (cond b (Some slots) rest) ≡ (b || is_some rest)
some-either true slots rest = refl
some-either false slots rest = refl

-- what comes of the cache, spelled out
there : (old new : Document) (damage : List Pair) (version : ℕ) → Cache → Cache
there old new damage version cache =
    add_stacks (came_to old new) old version (record cache { held = staying new damage version cache })

gone-there : (old new : Document) (damage : List Pair) (version : ℕ) (cache : Cache) → IsCacheOf old cache
    → gone_along (change_between old new damage) version cache ≡ there old new damage version cache
unfolding there
gone-there old new damage version cache is =
    ap (with_stacks (came_to old new) old.width old.height version) (left-cache old new damage version cache is)

has-there : (old new : Document) (damage : List Pair) (version : ℕ) (cache : Cache) → IsCacheOf old cache → (k : ℕ)
    → has_slots (there old new damage version cache) k ≡ has_stack new k
unfolding there
has-there old new damage version cache is k =
    ap is_some (slots_of-added old version (came_to old new) stay k)
    ∙ (some-either (has_id k (came_to old new)) (blank_slots old.width old.height version) (slots_of stay k)
    ∙ ((λ i. came-listed old new k i || has-staying new damage version cache k i)
    ∙ (ap (λ b. (not (has_stack old k) && has_stack new k) || (has_stack new k && b)) (is.stacks k)
    ∙ just (has_stack old k) (has_stack new k))))
  where
    stay : Cache
    stay = record cache { held = staying new damage version cache }

    just : (a b : Bool) → ((not a && b) || (b && a)) ≡ b
    just true true = refl
    just true false = refl
    just false true = refl
    just false false = refl

is_cache-there : (old new : Document) (damage : List Pair) (version : ℕ) (cache : Cache) → IsCacheOf old cache
    → IsCache old.width old.height (there old new damage version cache)
unfolding there
is_cache-there old new damage version cache is =
    let stay : Cache = record cache { held = filter (λ h. has_stack new h.stack) cache.held } in
    is_cache-all-added old version (came_to old new) (record stay { held = map (mark_by damage version) stay.held })
    (is_cache-map old.width old.height (mark_by damage version) stay (λ h. refl)
    (λ h of_canvas. of_canvas-changed old.width old.height
    (λ tile slot. cond (list_any (λ r. do_meet r (tile_rect h.slots.width h.slots.height tile)) (rects_in damage h.stack))
    (mark_slot version slot) slot) h.slots of_canvas)
    (is_cache-filter old.width old.height (λ h. has_stack new h.stack) cache is.slots))

pub leads-back : (old new : Document) → LeadsBack old new
leads-back old new c version cache same path =
    let gone : gone_along c version cache ≡ there old new c.damage version cache =
    ap (λ x. gone_along x version cache) path.leads ∙ gone-there old new c.damage version cache path.here in
    let slots : IsCache old.width old.height (gone_along c version cache) =
    subst (IsCache old.width old.height) (sym gone) (is_cache-there old new c.damage version cache path.here) in
    record {
      from = path.to;
      to = path.from;
      leads = ap turned path.leads ∙ (λ i. record {
        width = sym same.width i;
        height = sym same.height i;
        damage = c.damage;
        came =
            came_to new old;
        went = came_to old new;
      });
      here = record {
        slots = subst (λ w. IsCache w new.height (gone_along c version cache)) (sym same.width)
            (subst (λ h. IsCache old.width h (gone_along c version cache)) (sym same.height) slots);
        stacks = λ k. ap (λ x. has_slots x k) gone ∙ has-there old new c.damage version cache path.here k;
      };
    }

pub begins : (d : Document) → BeginsWithItsCache d
begins d is = record {
  slots = is_cache-all-added d 0 (stack_ids d) no_slots (record { in_order = tt; of_canvas = tt });
  stacks = λ k.
      ap is_some (slots_of-added d 0 (stack_ids d) no_slots k)
      ∙ (some-either (has_id k (stack_ids d)) (blank_slots d.width d.height 0) (slots_of no_slots k)
      ∙ (ap (λ b. b || false) (stacks-listed d k) ∙ or-none (has_stack d k)));
}
  where
    or-none : (b : Bool) → (b || false) ≡ b
    or-none true = refl
    or-none false = refl
