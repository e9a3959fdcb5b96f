-- A job that is taken is of a tile that is there.
use Rattle.std.proofs.Common.{◌≡◌, ℕ, zero, suc, ◌+◌, ◌*◌, ◌/◌, ◌%◌, ◌<◌, ◌≤◌, Bool, true, false, cond, ◌==◌, nat_lt}
use Rattle.std.proofs.Common.{List, [], ◌∷◌, length, map, filter, refl, sym, ◌∙◌, ap, subst, arith, lt-ltb, mod-lt}
use Rattle.std.proofs.Common.{div-lt_iff_lt-mul, mul_comm, eq-eqb}
use Rattle.std.specs.Prelude.{Option, Some, None, IfSome, is_some, option_map, slice_get, find}
use Rattle.std.specs.List.{AllByRecursion}
use Rattle.std.proofs.lemmas.Bool.{and_from}
use Rattle.spec_document.specs.declared.TileAt.{TileAt}
use Rattle.spec_document.specs.Grid.{tiles_along, is_on_grid}
use Rattle.spec_document.specs.Document.{Document}
use Rattle.spec_cache.specs.Slots.{Slot, Slots, AreOfCanvas, tile_numbered, tiled_from, marked_tiles}
use Rattle.spec_cache.specs.Cache.{Held, Place, slots_in, comes_after, marked_places, or_first, next_after, next_place, with_last}
use Rattle.spec_history.specs.Machine.{latest}
use Rattle.spec_world.specs.World.{World}
use Rattle.spec_world.specs.Events.{add_job, take_job}
use Rattle.spec_world.specs.Right.{IsJob}
use Rattle.spec_world.specs.Standing.{IsStanding}
use Rattle.spec_world.proofs.Filled.{all-behind}

-- a tile of a stack that has slots, on the grid
pub record IsPlace (w h : ℕ) (held : List Held) (p : Place) : Type 0 where
  pub has : is_some (slots_in held p.stack) ≡ true
  pub on_grid : is_on_grid w h p.at ≡ true

-- ---- the tiles of a stack

positive : (i c r : ℕ) → i < c * r → 0 < c
positive i zero r below = absurd (omega (arith, below))
positive i (suc c) r below = omega arith

divided : (i c r : ℕ) → 0 < c → i < c * r → i / c < r
divided i c r some below = (div-lt_iff_lt-mul some).1 (subst (λ n. i < n) (mul_comm c r) below)

same-eqb : (n : ℕ) → (n == n) ≡ true
same-eqb n = eq-eqb n n refl

pub numbered-on : (w h i : ℕ) → i < tiles_along w * tiles_along h → is_on_grid w h (tile_numbered w i) ≡ true
numbered-on w h i below =
    let some = positive i (tiles_along w) (tiles_along h) below in
    and_from (nat_lt (i % tiles_along w) (tiles_along w)) (nat_lt (i / tiles_along w) (tiles_along h))
    (lt-ltb (i % tiles_along w) (tiles_along w) (mod-lt i some))
    (lt-ltb (i / tiles_along w) (tiles_along h) (divided i (tiles_along w) (tiles_along h) some below))

tiled-on : (w h first : ℕ) (each : List Slot) → first + length each ≤ tiles_along w * tiles_along h
    → AllByRecursion (λ at. is_on_grid w h at ≡ true) (map (λ p. p.0) (filter (λ p. p.1.marked) (tiled_from w first each)))
tiled-on w h first [] within = tt
tiled-on w h first (s ∷ ss) within =
    go s.marked (numbered-on w h first (omega (arith, within))) (tiled-on w h (suc first) ss (omega (arith, within)))
  where
    go : (b : Bool) → is_on_grid w h (tile_numbered w first) ≡ true
        → AllByRecursion (λ at. is_on_grid w h at ≡ true) (map (λ p. p.0) (filter (λ p. p.1.marked) (tiled_from w (suc first) ss)))
        → AllByRecursion (λ at. is_on_grid w h at ≡ true)
        (map (λ p. p.0) (cond b ((tile_numbered w first, s) ∷ filter (λ p. p.1.marked) (tiled_from w (suc first) ss))
        (filter (λ p. p.1.marked) (tiled_from w (suc first) ss))))
    go true here rest = (here, rest)
    go false here rest = rest

marked-on : (w h : ℕ) (s : Slots) → AreOfCanvas w h s → AllByRecursion (λ at. is_on_grid w h at ≡ true) (marked_tiles s)
marked-on w h s of_canvas =
    let P : ℕ → Type 0 = λ n. AllByRecursion (λ at. is_on_grid w h at ≡ true)
    (map (λ p. p.0) (filter (λ p. p.1.marked) (tiled_from n 0 s.each))) in
    let full = of_canvas.full in
    subst P (sym of_canvas.width_is) (tiled-on w h 0 s.each (omega arith))

-- ---- the places of a cache

places-of : (w h : ℕ) (held : List Held) (stack : ℕ) (tiles : List TileAt) → is_some (slots_in held stack) ≡ true
    → AllByRecursion (λ at. is_on_grid w h at ≡ true) tiles
    → AllByRecursion (IsPlace w h held) (map (λ at. record { stack = stack; at = at }) tiles)
places-of w h held stack [] has all = tt
places-of w h held stack (at ∷ tiles) has all = (record { has = has; on_grid = all.0 }, places-of w h held stack tiles has all.1)

places-in : (w h : ℕ) (held ks : List Held) → AllByRecursion (λ k. is_some (slots_in held k.stack) ≡ true) ks
    → AllByRecursion (λ k. AreOfCanvas w h k.slots) ks
    → AllByRecursion (IsPlace w h held) (marked_places ks)
places-in w h held [] has all = tt
places-in w h held (k ∷ ks) has all =
    all-behind (IsPlace w h held) (map (λ at. record { stack = k.stack; at = at }) (marked_tiles k.slots)) (marked_places ks)
    (places-of w h held k.stack (marked_tiles k.slots) has.0 (marked-on w h k.slots all.0)) (places-in w h held ks has.1 all.1)

found-still : (h : Held) (held ks : List Held) → AllByRecursion (λ k. is_some (slots_in held k.stack) ≡ true) ks
    → AllByRecursion (λ k. is_some (slots_in (h ∷ held) k.stack) ≡ true) ks
found-still h held [] all = tt
found-still h held (k ∷ ks) all = (go (h.stack == k.stack) all.0, found-still h held ks all.1)
  where
    go : (b : Bool) → is_some (slots_in held k.stack) ≡ true
        → is_some (option_map (λ x. x.slots) (cond b (Some h) (find (λ x. x.stack == k.stack) held))) ≡ true
    go true e = refl
    go false e = e

each-found : (held : List Held) → AllByRecursion (λ k. is_some (slots_in held k.stack) ≡ true) held
each-found [] = tt
each-found (h ∷ hs) = (
  ap (λ b. is_some (option_map (λ x. x.slots) (cond b (Some h) (find (λ x. x.stack == h.stack) hs)))) (same-eqb h.stack),
  found-still h hs hs (each-found hs),
)

if-found : {A : Type 0} (P : A → Type 0) (q : A → Bool) (xs : List A) → AllByRecursion P xs → IfSome (find q xs) P
if-found P q [] all = tt
if-found P q (x ∷ xs) all = go (q x) (if-found P q xs all.1)
  where
    go : (b : Bool) → IfSome (find q xs) P → IfSome (cond b (Some x) (find q xs)) P
    go true rest = all.0
    go false rest = rest

if-first : (P : Place → Type 0) (xs : List Place) → AllByRecursion P xs → IfSome (slice_get xs 0) P
if-first P [] all = tt
if-first P (x ∷ xs) all = all.0

if-either : (P : Place → Type 0) (o : Option Place) (xs : List Place) → IfSome o P → AllByRecursion P xs → IfSome (or_first o xs) P
if-either P None xs h all = if-first P xs all
if-either P (Some p) xs h all = h

if-next : (P : Place → Type 0) (last : Option Place) (xs : List Place) → AllByRecursion P xs → IfSome (next_after last xs) P
if-next P None xs all = if-first P xs all
if-next P (Some l) xs all = if-either P (find (λ p. comes_after p l) xs) xs (if-found P (λ p. comes_after p l) xs all) all

-- ---- the world

pub standing-take : (base : Document) (w : World) → IsStanding base w → IsStanding base (take_job w)
standing-take base w is =
    go (next_place w.cache) (if-next (IsPlace base.width base.height w.cache.held) w.cache.last (marked_places w.cache.held)
    (places-in base.width base.height w.cache.held w.cache.held (each-found w.cache.held) is.slots.of_canvas))
  where
    go : (o : Option Place) → IfSome o (IsPlace base.width base.height w.cache.held)
        → IsStanding base (record w { cache = with_last o w.cache; jobs = add_job o (latest w.state) w.jobs })
    go None h = is
    go (Some p) h = record {
      legal = is.legal;
      replayed = is.replayed;
      slots = record { in_order = is.slots.in_order; of_canvas = is.slots.of_canvas };
      stacks = is.stacks;
      seen = is.seen;
      each = is.each;
      jobs = all-behind (IsJob base w.state) w.jobs (record { stack = p.stack; at = p.at; version = latest w.state } ∷ []) is.jobs
          (record { version = omega arith; has = sym (is.stacks p.stack) ∙ h.has; on_grid = h.on_grid }, tt);
    }
