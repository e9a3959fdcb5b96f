-- A tile that is shown, and a job that is finished, leave a world that stands.
use Rattle.std.proofs.Common.{◌≡◌, ℕ, zero, suc, ◌≤◌, Bool, true, false, cond, ◌&&◌, ◌==◌, nat_lt, List, [], ◌∷◌, ◌++◌}
use Rattle.std.proofs.Common.{remove, take, drop, refl, sym, ◌∙◌, ap, subst, true≢false, arith}
use Rattle.std.specs.Prelude.{Option, Some, None, IfSome, is_some, option_and_then, slice_get}
use Rattle.std.specs.List.{AllByRecursion}
use Rattle.std.proofs.lemmas.Bool.{and_parts, eqb-true, eqb-false, ltb-false}
use Rattle.spec_document.specs.declared.TileAt.{TileAt}
use Rattle.spec_document.specs.Grid.{is_on_grid, same_tile}
use Rattle.spec_document.specs.Document.{Document}
use Rattle.spec_document.specs.Picture.{project}
use Rattle.spec_cache.specs.declared.Finished.{Finished}
use Rattle.spec_cache.specs.declared.Finished.TheVariants.{Installed, Late, Gone}
use Rattle.spec_cache.specs.Slots.{Slot, Slots, slot_at, change_slot, fill_slot}
use Rattle.spec_cache.specs.Cache.{Cache, slots_of, has_slots, slot_of, change_stack, finish_at, finish, put_where}
use Rattle.spec_cache.proofs.Order.{is_cache-changed}
use Rattle.spec_history.specs.Machine.{State, latest, document_at, has_stack, tile, tile_of}
use Rattle.spec_history.specs.History.{Entry, asked}
use Rattle.spec_history.specs.Kept.{last_tile, or_earlier}
use Rattle.spec_history.proofs.Bounds.{last_tile-snoc}
use Rattle.spec_world.specs.World.{World, Job, document_now, result_of}
use Rattle.spec_world.specs.Events.{with_entry, show_slot, place_of, cache_with_result, finish_job}
use Rattle.spec_world.specs.Right.{IsJob}
use Rattle.spec_world.specs.RightSlot.{DamageIsSound, IsRightSlot}
use Rattle.spec_world.proofs.SlotLaws.{right-shown, right-installed}
use Rattle.spec_world.proofs.Entered.{Enters}
use Rattle.spec_world.specs.Standing.{WasShown, IsStanding}
use Rattle.spec_world.proofs.Standing.{same-tile, changed-slot, same-stacks}

pub eq-swap : (a b : ℕ) → (a == b) ≡ (b == a)
eq-swap a b = go (a == b) (b == a) refl refl
  where
    go : (x y : Bool) → (a == b) ≡ x → (b == a) ≡ y → x ≡ y
    go true true e f = refl
    go false false e f = refl
    go true false e f = absurd (eqb-false b a f (sym (eqb-true a b e)))
    go false true e f = absurd (eqb-false a b e (sym (eqb-true b a f)))

-- ---- a tile

abbrev pub tile_entry : (session index k : ℕ) → TileAt → (tables : List (List ℕ)) → (version : ℕ) → Entry
tile_entry session index k place tables version =
    record { session = session; index = index; kind = asked (tile k place) tables; reply = tile_of version }

shown-here : (base : Document) (s : State) (at place : TileAt) (b : Bool) (last : Option ℕ)
    → is_on_grid base.width base.height place ≡ true
    → (b ≡ true → at ≡ place) → IfSome last (WasShown base s at)
    → IfSome (or_earlier (cond b (Some (latest s)) None) last) (WasShown base s at)
shown-here base s at place true last on here h =
    record { there = omega arith; on_grid = ap (is_on_grid base.width base.height) (here refl) ∙ on }
shown-here base s at place false last on here h = h

pub standing-tile : (base : Document) (w : World) (session index k : ℕ) (place : TileAt) (tables : List (List ℕ))
    → IsStanding base w
    → is_on_grid base.width base.height place ≡ true
    → Enters base w.entries (tile_entry session index k place tables (latest w.state)) w.state w.state
    → IsStanding base (record (with_entry base w (tile_entry session index k place tables (latest w.state))) {
      cache = change_stack k (change_slot place (show_slot (project (document_now base w.state) k place))) w.cache;
    })
standing-tile base w session index k place tables is on enters =
    let e : Entry = tile_entry session index k place tables (latest w.state) in
    let s : State = w.state in
    record {
      legal = enters.legal;
      replayed = enters.replayed;
      slots = is_cache-changed base.width base.height k _ w.cache is.slots;
      stacks = λ stack. same-stacks k _ w.cache stack ∙ is.stacks stack;
      seen = λ stack at. subst (λ o. IfSome o (WasShown base s at)) (sym (last_tile-snoc stack at w.entries e))
          (shown-here base s at place (k == stack && same_tile place at) (last_tile stack at w.entries) on
          (λ b. sym (same-tile place at (and_parts (k == stack) (same_tile place at) b).1)) (is.seen stack at));
      each = λ stack at slot found.
          changed-slot stack k at place (show_slot (project (document_now base s) k place)) w.cache slot
          (λ x. IsRightSlot base s stack at (last_tile stack at (w.entries ++ e ∷ [])) x) found
          (λ old p q r.
          let P : TileAt → Type 0 = λ t. IsRightSlot base s stack at (last_tile stack at (w.entries ++ e ∷ []))
          (show_slot (project (document_now base s) k t) old) in
          let Q : ℕ → Type 0 = λ n. IsRightSlot base s stack at (last_tile stack at (w.entries ++ e ∷ []))
          (show_slot (project (document_now base s) n at) old) in
          subst P (same-tile at place r) (subst Q (eqb-true stack k q)
          (right-shown base s stack at (last_tile stack at w.entries) (last_tile stack at (w.entries ++ e ∷ [])) old
          (is.each stack at old p))))
          (λ old p other.
          let here : (k == stack && same_tile place at) ≡ (stack == k && same_tile at place) =
          λ i. eq-swap k stack i && (eq-swap place.col at.col i && eq-swap place.row at.row i) in
          let same : last_tile stack at (w.entries ++ e ∷ []) ≡ last_tile stack at w.entries =
          last_tile-snoc stack at w.entries e
          ∙ ap (λ b. or_earlier (cond b (Some (latest s)) None) (last_tile stack at w.entries)) (here ∙ other) in
          subst (λ o. IsRightSlot base s stack at o old) (sym same) (is.each stack at old p));
      jobs = is.jobs;
    }

-- ---- a job

pub slots-of-slot : (cache : Cache) (stack : ℕ) (at : TileAt) (slot : Slot) → slot_of cache stack at ≡ Some slot
    → has_slots cache stack ≡ true
slots-of-slot cache stack at slot = go (slots_of cache stack)
  where
    go : (o : Option Slots) → option_and_then (λ s. slot_at s at) o ≡ Some slot → is_some o ≡ true
    go None e = ap is_some e
    go (Some s) e = refl

abbrev pub is_installed : Finished → Bool
is_installed Installed = true
is_installed finished = false

pub not-late : (version marked_at : ℕ) → cond (nat_lt version marked_at) (Late marked_at) Installed ≡ Installed
    → marked_at ≤ version
not-late version marked_at e = go (nat_lt version marked_at) refl (ap is_installed e)
  where
    go : (b : Bool) → nat_lt version marked_at ≡ b → is_installed (cond b (Late marked_at) Installed) ≡ true → marked_at ≤ version
    go true f h = absurd (true≢false (sym h))
    go false f h = ltb-false version marked_at f

all-take : {A : Type 0} (P : A → Type 0) (n : ℕ) (xs : List A) → AllByRecursion P xs → AllByRecursion P (take n xs)
all-take P zero xs all = tt
all-take P (suc n) [] all = tt
all-take P (suc n) (x ∷ xs) all = (all.0, all-take P n xs all.1)

all-drop : {A : Type 0} (P : A → Type 0) (n : ℕ) (xs : List A) → AllByRecursion P xs → AllByRecursion P (drop n xs)
all-drop P zero xs all = all
all-drop P (suc n) [] all = tt
all-drop P (suc n) (x ∷ xs) all = all-drop P n xs all.1

pub all-behind : {A : Type 0} (P : A → Type 0) (xs ys : List A) → AllByRecursion P xs → AllByRecursion P ys
    → AllByRecursion P (xs ++ ys)
all-behind P [] ys all more = more
all-behind P (x ∷ xs) ys all more = (all.0, all-behind P xs ys all.1 more)

all-remove : {A : Type 0} (P : A → Type 0) (xs : List A) (n : ℕ) → AllByRecursion P xs → AllByRecursion P (remove xs n)
all-remove P xs n all = all-behind P (take n xs) (drop (suc n) xs) (all-take P n xs all) (all-drop P (suc n) xs all)

pub if-there : {A : Type 0} (P : A → Type 0) (xs : List A) (i : ℕ) → AllByRecursion P xs → IfSome (slice_get xs i) P
if-there P [] i all = tt
if-there P (x ∷ xs) zero all = all.0
if-there P (x ∷ xs) (suc i) all = if-there P xs i all.1

-- the world with another cache and fewer jobs
abbrev pub with_cache : World → Cache → List Job → World
with_cache w cache jobs = record w { cache = cache; jobs = jobs }

standing-put : (base : Document) (w : World) (jobs : List Job) (job : Job) (finished : Finished) → IsStanding base w
    → DamageIsSound base w.state → IsJob base w.state job
    → AllByRecursion (IsJob base w.state) jobs → finish w.cache (place_of job) job.version ≡ finished
    → IsStanding base (with_cache w (put_where finished (place_of job) (result_of base w.state job) w.cache) jobs)
standing-put base w jobs job (Late n) is sound of_job all e =
    record {
      legal = is.legal;
      replayed = is.replayed;
      slots = is.slots;
      stacks = is.stacks;
      seen = is.seen;
      each = is.each;
      jobs =
          all;
    }
standing-put base w jobs job Gone is sound of_job all e =
    record {
      legal = is.legal;
      replayed = is.replayed;
      slots = is.slots;
      stacks = is.stacks;
      seen = is.seen;
      each = is.each;
      jobs =
          all;
    }
standing-put base w jobs job Installed is sound of_job all e =
    let s : State = w.state in
    record {
      legal = is.legal;
      replayed = is.replayed;
      slots = is_cache-changed base.width base.height job.stack _ w.cache is.slots;
      stacks = λ stack. same-stacks job.stack _ w.cache stack ∙ is.stacks stack;
      seen = is.seen;
      each = λ stack at slot found.
          changed-slot stack job.stack at job.at (fill_slot (result_of base s job)) w.cache slot
          (λ x. IsRightSlot base s stack at (last_tile stack at w.entries) x) found
          (λ old p q r.
          let k : stack ≡ job.stack = eqb-true stack job.stack q in
          let t : at ≡ job.at = same-tile at job.at r in
          let there : slot_of w.cache job.stack job.at ≡ Some old = (λ i. slot_of w.cache (sym k i) (sym t i)) ∙ p in
          let late : old.marked_at ≤ job.version =
          not-late job.version old.marked_at (ap (finish_at job.version) (sym there) ∙ e) in
          let has : has_stack (document_now base s) stack ≡ true = sym (is.stacks stack) ∙ slots-of-slot w.cache stack at old p in
          let shows : project (document_at base s job.version) stack at ≡ result_of base s job =
          λ i. project (document_at base s job.version) (k i) (t i) in
          subst (λ bytes. IsRightSlot base s stack at (last_tile stack at w.entries) (fill_slot bytes old)) shows
          (right-installed base s stack at (last_tile stack at w.entries) old job.version sound has of_job.version late
          (is.each stack at old p)))
          (λ old p other. is.each stack at old p);
      jobs = all;
    }

pub standing-finish : (base : Document) (w : World) (number : ℕ) → IsStanding base w → DamageIsSound base w.state
    → IsStanding base (finish_job base w number)
standing-finish base w number is sound = go (slice_get w.jobs number) (if-there (IsJob base w.state) w.jobs number is.jobs)
  where
    rest : AllByRecursion (IsJob base w.state) (remove w.jobs number)
    rest = all-remove (IsJob base w.state) w.jobs number is.jobs

    go : (o : Option Job) → IfSome o (IsJob base w.state)
        → IsStanding base (with_cache w (cache_with_result base w o) (remove w.jobs number))
    go None h = record {
      legal = is.legal;
      replayed = is.replayed;
      slots = is.slots;
      stacks = is.stacks;
      seen = is.seen;
      each =
          is.each;
      jobs = rest;
    }
    go (Some job) h =
        standing-put base w (remove w.jobs number) job (finish w.cache (place_of job) job.version) is sound h rest refl
