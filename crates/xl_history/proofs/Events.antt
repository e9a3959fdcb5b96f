-- What a core does beside calls, as events of its world.
use Rattle.std.proofs.Common.{◌≡◌, ℕ, ◌+◌, ◌<◌, ◌≤◌, true, false, cond, List, [], ◌∷◌, ◌++◌, length, nat_lt, refl, sym, ◌∙◌}
use Rattle.std.proofs.Common.{ap, subst, arith, remove}
use Rattle.std.specs.Prelude.{Option, Some, None, slice_get}
use Rattle.std.proofs.lemmas.Bool.Decides.{nat_tests}
use Rattle.spec_document.specs.Document.{Document}
use Rattle.spec_cache.specs.declared.Finished.{Finished}
use Rattle.spec_cache.specs.Cache.{Cache, install, finish}
use Rattle.spec_history.specs.Machine.{Saving, saved, latest}
use Rattle.spec_history.specs.History.{Entry, starts, ends, next_index, replay}
use Rattle.spec_history.specs.declared.TheConstants.{MAX_ENTRIES}
use Rattle.spec_history.specs.Kept.{IsLegal}
use Rattle.spec_history.proofs.Growing.{replay-snoc}
use Rattle.spec_history.proofs.Versions.{latest_of-legal}
use Rattle.spec_world.specs.World.{World, Job, entries_owed, free_entries}
use Rattle.spec_world.specs.Events.{Event, takes, begins_save, ends_save, cache_with_result, finish_of, IsOutOf, save_starts}
use Rattle.spec_world.specs.Events.{start_where, end_where, end_reply, after}
use Rattle.spec_world.specs.declared.SaveEnd.{SaveEnd}
use Rattle.spec_saves.specs.Names.{version_out}
use Rattle.spec_saves.specs.Returns.{end_entry}
use Rattle.xl_compose.specs.declared.clean.Done.{Done}
use Rattle.spec_standing.specs.Now.{world_of}
use Rattle.xl_desk.specs.Places.{place_done}
use Rattle.xl_history.specs.Editing.{Editing, world_with, HappensWith, Happens, taken, IsPictureOf, IsFinished, handed_in}
use Rattle.xl_history.specs.Editing.{out_of, index_out, with_start}

-- ---- jobs

pub taken_happens : {K : Type 0} (old : Editing K) → Happens old takes (taken old)
taken_happens old = λ jobs. (refl, refl)

-- the picture that a job comes to is the one that is handed in
pub finished_happens : {K : Type 0} (old new : Editing K) (done : Done) (result : Finished) → IsPictureOf old.history done
    → result ≡ finish old.cache (place_done done) done.version → new ≡ handed_in old done → IsFinished old done result new
finished_happens old new done result is says kept = λ jobs number there.
    let w = world_with old jobs in
    let base = old.history.base in
    let cache : install (place_done done) done.version done.picture old.cache ≡ cache_with_result base w (slice_get jobs number) =
    ap (λ picture. install (place_done done) done.version picture old.cache) is.picture
    ∙ ap (cache_with_result base w) (sym there) in (
      says ∙ ap (finish_of w) (sym there),
      (
        ap (λ c. c.history.base) kept,
        ap (λ c. world_with c (remove jobs number)) kept
            ∙ (λ i. record w { cache = cache i; jobs = remove jobs number }),
      ),
    )

-- ---- saves

-- the world after the event is that of the new core
happens_by : {K : Type 0} (jobs : List Job) (old : Editing K) (event : Event) (new : Editing K) (w : World)
    → w ≡ after old.history.base (world_with old jobs) event → new.history.base ≡ old.history.base → world_with new w.jobs ≡ w
    → HappensWith jobs old event new
happens_by jobs old event new w is base same =
    subst (λ (x : World). (new.history.base ≡ old.history.base) × (world_with new x.jobs ≡ x)) is (base, same)

-- where a save is out another does not begin
pub out_happens : {K : Type 0} (c : Editing K) (session : ℕ) (out : Saving) → out_of c.history ≡ Some out
    → Happens c (begins_save session) c
out_happens c session out there = λ jobs.
    let w = world_with c jobs in
    happens_by jobs c (begins_save session) c w (ap (start_where c.history.base w session) (sym there)) refl refl

none_free : {K : Type 0} (c : Editing K) (session : ℕ) → out_of c.history ≡ None
    → MAX_ENTRIES < length c.history.entries + 2 → Happens c (begins_save session) c
none_free c session none full = λ jobs.
    let base = c.history.base in
    let w = world_with c jobs in
    let owed : entries_owed w.state.out ≡ 0 = ap entries_owed none in
    let few : free_entries w < 2 = omega (arith, owed, full) in
    let test : nat_lt (free_entries w) 2 ≡ true = grind (arith, nat_tests, few) in
    happens_by jobs c (begins_save session) c w
    (sym (ap (λ b. cond b w (save_starts base w session)) test) ∙ ap (start_where base w session) (sym none)) refl refl

-- nor where fewer than two entries are free
pub full_happens : {K : Type 0} (c : Editing K) (session : ℕ) → MAX_ENTRIES < length c.history.entries + 2
    → Happens c (begins_save session) c
full_happens c session full = go (out_of c.history) refl
  where
    go : (o : Option Saving) → out_of c.history ≡ o → Happens c (begins_save session) c
    go None none = none_free c session none full
    go (Some out) there = out_happens c session out there

pub started_happens : {K : Type 0} (old new : Editing K) (session : ℕ) (k : K) (spare : ℕ)
    → IsLegal old.history.base old.history.entries → out_of old.history ≡ None
    → length old.history.entries + 2 ≤ MAX_ENTRIES → new ≡ with_start old session k spare → Happens old (begins_save session) new
started_happens old new session k spare legal none enough is = λ jobs.
    let base = old.history.base in
    let es = old.history.entries in
    let w = world_with old jobs in
    let owed : entries_owed w.state.out ≡ 0 = ap entries_owed none in
    let free : 2 ≤ free_entries w = omega (arith, owed, enough) in
    let test : nat_lt (free_entries w) 2 ≡ false = grind (arith, nat_tests, free) in
    let start : ℕ → Entry =
    λ v. record { session = session; index = next_index es session; kind = starts; reply = saved v } in
    let last = latest_of-legal base es legal in
    happens_by jobs old (begins_save session) new (save_starts base w session)
    (sym (ap (λ b. cond b w (save_starts base w session)) test) ∙ ap (start_where base w session) (sym none))
    (ap (λ c. c.history.base) is)
    (ap (λ c. world_with c jobs) is
    ∙ ((λ i. record {
      entries = es ++ start (last i) ∷ [];
      state = replay base (es ++ start (last i) ∷ []);
      cache = old.cache;
      jobs = jobs;
    })
    ∙ (λ i. record {
      entries = es ++ start (latest (replay base es)) ∷ [];
      state = replay-snoc base es (start (latest (replay base es))) i;
      cache = old.cache;
      jobs = jobs;
    })))

-- what an event leads to, by the history and the pictures that are kept
abbrev Leads : {K : Type 0} → (old : Editing K) → Event → (base : Document) → List Entry → Cache → Type 0
Leads old event base entries cache =
    (jobs : List Job) →
    let next = after old.history.base (world_with old jobs) event in
    (base ≡ old.history.base) × (record (world_of base entries cache) { jobs = next.jobs } ≡ next)

pub ended_happens : {K : Type 0} (old : Editing K) (session : ℕ) (how : SaveEnd) (base : Document) (entries : List Entry) (cache : Cache)
    → IsOutOf (out_of old.history) session → base ≡ old.history.base
    → entries ≡ old.history.entries
    ++ end_entry old.history.base old.history.entries session (index_out (out_of old.history)) how ∷ []
    → cache ≡ old.cache → Leads old (ends_save session how) base entries cache
ended_happens old session how base entries cache own same more kept = λ jobs. go jobs (out_of old.history) refl own
  where
    b : Document
    b = old.history.base

    es : List Entry
    es = old.history.entries

    go : (jobs : List Job) (o : Option Saving) → out_of old.history ≡ o → IsOutOf o session →
        let next = after old.history.base (world_with old jobs) (ends_save session how) in
        (base ≡ old.history.base) × (record (world_of base entries cache) { jobs = next.jobs } ≡ next)
    go jobs None there mine = absurd mine
    go jobs (Some out) there mine =
        let w = world_with old jobs in
        let end : Entry =
        record { session = out.session; index = out.index; kind = ends; reply = end_reply how out.version } in
        let last : end_entry b es session (index_out (out_of old.history)) how ≡ end = λ i. record {
          session = mine i;
          index = index_out (there i);
          kind = ends;
          reply = end_reply how (version_out (there i));
        } in
        let grown : entries ≡ es ++ end ∷ [] = more ∙ ap (λ e. es ++ e ∷ []) last in
        let ended : World = end_where b w how (Some out) in
        let now : record (world_of base entries cache) { jobs = jobs } ≡ ended =
        (λ i. record (world_of (same i) (grown i) (kept i)) { jobs = jobs })
        ∙ (λ i. record {
          entries = es ++ end ∷ [];
          state = replay-snoc b es end i;
          cache = old.cache;
          jobs = jobs;
        }) in
        let is : ended ≡ after b w (ends_save session how) = ap (end_where b w how) (sym there) in
        subst (λ (x : World). (base ≡ b) × (record (world_of base entries cache) { jobs = x.jobs } ≡ x)) is (same, now)
