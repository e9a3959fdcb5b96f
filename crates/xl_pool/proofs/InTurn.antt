-- The stacks that go have slots when their turn comes, and for those that come there is room.
use Rattle.std.proofs.Common.{◌≡◌, ℕ, ◌≤◌, Bool, true, false, cond, not, ◌&&◌, ◌||◌, ◌==◌, List, [], ◌∷◌, length, map}
use Rattle.std.proofs.Common.{filter, refl, sym, ◌∙◌, ap, subst, arith, eq-eqb, true≢false}
use Rattle.std.specs.Prelude.{Option, Some, None, is_some, option_map}
use Rattle.std.proofs.lemmas.Bool.{eqb-true}
use Rattle.spec_document.specs.Document.{Document}
use Rattle.spec_document.specs.Limits.{IsDocument}
use Rattle.spec_damage.specs.Damage.{Pair}
use Rattle.spec_cache.specs.Slots.{Slots, blank_slots, mark_slots}
use Rattle.spec_cache.specs.Cache.{Held, Cache, AreInOrder, no_slots, slots_in, has_slots, put_in, add_stack, drop_stack}
use Rattle.spec_cache.proofs.Found.{slots_in-map, slots_in-filter, slots_in-put}
use Rattle.spec_cache.proofs.Order.{in_order-put, in_order-map, in_order-filter}
use Rattle.spec_history.specs.Machine.{has_stack}
use Rattle.spec_world.specs.World.{stack_ids}
use Rattle.spec_world.proofs.Filled.{eq-swap}
use Rattle.spec_world.proofs.Stacks.{has_id, stacks-listed, came-listed}
use Rattle.spec_standing.specs.Change.{Change, came_to, without_stacks, marked_by, rects_in, IsCacheOf, IsPath}
use Rattle.xl_pool.specs.Steps.{AreGoing, AreComing}
use Rattle.xl_pool.proofs.Between.{each-held, without-stays, marked-mapped, mark_by}
use Rattle.xl_pool.proofs.Once.{AreOnce, stacks-once, came-once, stacks-few}
use Rattle.xl_pool.proofs.Few.{few-held, put-longer}
use Rattle.spec_cache.specs.declared.TheConstants.{MAX_STACKS}

-- ---- going

other-id : (s : ℕ) (ss : List ℕ) (k : ℕ) → has_id s ss ≡ false → has_id k ss ≡ true → (s == k) ≡ false
other-id s ss k once here = go (s == k) refl
  where
    go : (b : Bool) → (s == k) ≡ b → b ≡ false
    go true e = absurd (true≢false (sym here ∙ (ap (λ n. has_id n ss) (sym (eqb-true s k e)) ∙ once)))
    go false e = refl

behind-id : (a b : Bool) → b ≡ true → (a || b) ≡ true
behind-id true b e = refl
behind-id false b e = e

first-id : (s : ℕ) (ss : List ℕ) → has_id s (s ∷ ss) ≡ true
first-id s ss = ap (λ b. b || has_id s ss) (eq-eqb s s refl)

pub going : (ss : List ℕ) (cache : Cache) → AreOnce ss → ((k : ℕ) → has_id k ss ≡ true → has_slots cache k ≡ true)
    → AreGoing ss cache
going [] cache once has = tt
going (s ∷ ss) cache once has = (
  has s (first-id s ss),
  going ss (drop_stack s cache) once.1 (λ k here.
      ap is_some (slots_in-filter (λ n. not (n == s)) cache.held k)
      ∙ (ap (λ b. is_some (cond (not b) (slots_in cache.held k) None)) (eq-swap k s ∙ other-id s ss k once.0 here)
      ∙ has k (behind-id (s == k) (has_id k ss) here))),
)

-- ---- coming

some-put : (b : Bool) (slots : Slots) (rest : Option Slots) → is_some (cond b (Some slots) rest) ≡ (b || is_some rest)
some-put true slots rest = refl
some-put false slots rest = refl

has-added : (s width height version : ℕ) (cache : Cache) (k : ℕ)
    → has_slots (add_stack s width height version cache) k ≡ ((s == k) || has_slots cache k)
has-added s width height version cache k =
    ap is_some (slots_in-put (record { stack = s; slots = blank_slots width height version }) cache.held k)
    ∙ some-put (s == k) (blank_slots width height version) (slots_in cache.held k)

either-in : (s k : ℕ) (all : List ℕ) (b : Bool) → has_id s all ≡ true → ((s == k) || b) ≡ true → (b ≡ true → has_id k all ≡ true)
    → has_id k all ≡ true
either-in s k all b here e rest = go (s == k) refl e
  where
    go : (c : Bool) → (s == k) ≡ c → (c || b) ≡ true → has_id k all ≡ true
    go true p h = ap (λ n. has_id n all) (sym (eqb-true s k p)) ∙ here
    go false p h = rest h

pub coming : (all ss : List ℕ) (width height version : ℕ) (cache : Cache) → length all ≤ MAX_STACKS → AreOnce ss
    → ((k : ℕ) → has_id k ss ≡ true → has_slots cache k ≡ false) → ((k : ℕ) → has_id k ss ≡ true → has_id k all ≡ true)
    → ((k : ℕ) → has_slots cache k ≡ true → has_id k all ≡ true) → AreInOrder cache.held → AreComing ss width height version cache
coming all [] width height version cache few once absent within held order = tt
coming all (s ∷ ss) width height version cache few once absent within held order =
    let next : Cache = add_stack s width height version cache in
    let h : Held = record { stack = s; slots = blank_slots width height version } in
    let here : has_slots cache s ≡ false = absent s (first-id s ss) in
    let ordered : AreInOrder next.held = in_order-put h cache.held order in
    let inside : (k : ℕ) → has_slots next k ≡ true → has_id k all ≡ true = λ k e.
    either-in s k all (has_slots cache k) (within s (first-id s ss)) (sym (has-added s width height version cache k)
    ∙ e) (held k) in
    let more : length (put_in h cache.held) ≤ length all =
    few-held next.held all ordered (each-held (λ k. has_id k all ≡ true) next.held inside) in (
      here,
      (
        omega (arith, few, more, put-longer h cache.held here),
        coming all ss width height version next few once.1
            (λ k e. has-added s width height version cache k
            ∙ (ap (λ b. b || has_slots cache k) (other-id s ss k once.0 e) ∙ absent k (behind-id (s == k) (has_id k ss) e)))
            (λ k e. within k (behind-id (s == k) (has_id k ss) e)) inside ordered,
      ),
    )

-- ---- along a change

pub path-going : (old new : Document) (c : Change) (cache : Cache) → IsPath old new c cache → AreGoing c.went cache
path-going old new c cache path =
    subst (λ ss. AreGoing ss cache) (sym (ap (λ x. x.went) path.leads))
    (going (came_to new old) cache (came-once new old path.from) (λ k e. path.here.stacks k
    ∙ right-one (not (has_stack new k)) (has_stack old k) (sym (came-listed new old k) ∙ e)))
  where
    right-one : (a b : Bool) → (a && b) ≡ true → b ≡ true
    right-one true b e = e
    right-one false b e = absurd (true≢false (sym e))

some-map : (f : Slots → Slots) (o : Option Slots) → is_some (option_map f o) ≡ is_some o
some-map f None = refl
some-map f (Some s) = refl

some-where : (b : Bool) (o : Option Slots) → is_some (cond b o None) ≡ (b && is_some o)
some-where true o = refl
some-where false o = refl

-- the slots of those that stay
abbrev pub staying : Document → List Pair → (version : ℕ) → Cache → List Held
staying new damage version cache = map (mark_by damage version) (filter (λ h. has_stack new h.stack) cache.held)

pub has-staying : (new : Document) (damage : List Pair) (version : ℕ) (cache : Cache) (k : ℕ)
    → is_some (slots_in (staying new damage version cache) k) ≡ (has_stack new k && has_slots cache k)
has-staying new damage version cache k =
    ap is_some (slots_in-map (mark_by damage version) (λ n s. mark_slots (rects_in damage n) version s) (λ h. refl) (λ h. refl)
    (filter (λ h. has_stack new h.stack) cache.held) k)
    ∙ (some-map (mark_slots (rects_in damage k) version) (slots_in (filter (λ h. has_stack new h.stack) cache.held) k)
    ∙ (ap is_some (slots_in-filter (has_stack new) cache.held k) ∙ some-where (has_stack new k) (slots_in cache.held k)))

pub left-cache : (old new : Document) (damage : List Pair) (version : ℕ) (cache : Cache) → IsCacheOf old cache
    → marked_by damage version (without_stacks (came_to new old) cache) ≡ record cache { held = staying new damage version cache }
left-cache old new damage version cache is =
    ap (marked_by damage version) (without-stays old new cache is.stacks)
    ∙ marked-mapped damage version (record cache { held = filter (λ h. has_stack new h.stack) cache.held })

coming-there : (old new : Document) (damage : List Pair) (width height version : ℕ) (cache : Cache) → IsDocument new
    → IsCacheOf old cache
    → AreComing (came_to old new) width height version (record cache { held = staying new damage version cache })
coming-there old new damage width height version cache is_new is =
    coming (stack_ids new) (came_to old new) width height version (record cache { held = staying new damage version cache })
    (stacks-few new is_new) (came-once old new is_new)
    (λ k e. has-staying new damage version cache k
    ∙ (ap (λ b. has_stack new k && b) (is.stacks k)
    ∙ gone (has_stack old k) (has_stack new k) (sym (came-listed old new k) ∙ e)))
    (λ k e. stacks-listed new k ∙ new-one (has_stack old k) (has_stack new k) (sym (came-listed old new k) ∙ e))
    (λ k e. stacks-listed new k ∙ left-one (has_stack new k) (has_slots cache k) (sym (has-staying new damage version cache k) ∙ e))
    (in_order-map (mark_by damage version) (λ h. refl) (filter (λ h. has_stack new h.stack) cache.held)
    (in_order-filter (λ h. has_stack new h.stack) cache.held is.slots.in_order))
  where
    gone : (a b : Bool) → (not a && b) ≡ true → (b && a) ≡ false
    gone true b e = absurd (true≢false (sym e))
    gone false true e = refl
    gone false false e = refl

    new-one : (a b : Bool) → (not a && b) ≡ true → b ≡ true
    new-one true b e = absurd (true≢false (sym e))
    new-one false b e = e

    left-one : (a b : Bool) → (a && b) ≡ true → a ≡ true
    left-one true b e = refl
    left-one false b e = e

pub path-coming : (old new : Document) (c : Change) (cache : Cache) (version : ℕ) → IsPath old new c cache
    → AreComing c.came c.width c.height version (marked_by c.damage version (without_stacks c.went cache))
path-coming old new c cache version path =
    let there = coming-there old new c.damage c.width c.height version cache path.to path.here in
    let left = subst (λ k. AreComing (came_to old new) c.width c.height version k)
    (sym (left-cache old new c.damage version cache path.here)) there in
    subst (λ ss. AreComing ss c.width c.height version (marked_by c.damage version (without_stacks c.went cache)))
    (sym (ap (λ x. x.came) path.leads))
    (subst (λ ss. AreComing (came_to old new) c.width c.height version (marked_by c.damage version (without_stacks ss cache)))
    (sym (ap (λ x. x.went) path.leads)) left)

pub coming-same : (ss ts : List ℕ) (w x h y version : ℕ) (c d : Cache) → ss ≡ ts → w ≡ x → h ≡ y → c ≡ d
    → AreComing ss w h version c → AreComing ts x y version d
coming-same ss ts w x h y version c d e f g k is =
    subst (λ z. AreComing ts x y version z) k
    (subst (λ z. AreComing ts x z version c) g
    (subst (λ z. AreComing ts z h version c) f (subst (λ z. AreComing z w h version c) e is)))

-- ---- the first cache

pub first-coming : (d : Document) (width height version : ℕ) → IsDocument d → AreComing (stack_ids d) width height version no_slots
first-coming d width height version is =
    coming (stack_ids d) (stack_ids d) width height version no_slots (stacks-few d is) (stacks-once d is) (λ k e. refl) (λ k e. e)
    (λ k e. absurd (true≢false (sym e))) tt
