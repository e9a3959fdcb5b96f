-- Every world that comes about is right.
use Rattle.std.proofs.Common.{◌≡◌, ℕ, ◌≤◌, Bool, true, false, cond, nat_lt, List, [], ◌∷◌, refl, sym, ◌∙◌, ap, subst}
use Rattle.std.proofs.Common.{true≢false, arith}
use Rattle.std.specs.Prelude.{Option, Some, None, is_some, option_and_then}
use Rattle.std.specs.List.{AllByRecursion}
use Rattle.spec_document.specs.declared.TileAt.{TileAt}
use Rattle.spec_document.specs.Document.{Document}
use Rattle.spec_document.specs.Limits.{IsDocument}
use Rattle.spec_document.specs.Picture.{project}
use Rattle.spec_cache.specs.declared.Finished.TheVariants.{Installed}
use Rattle.spec_cache.specs.Slots.{Slot, blank_slots, slot_at}
use Rattle.spec_cache.specs.Cache.{no_slots, slots_of, slot_of, finish_at, finish}
use Rattle.spec_cache.proofs.Found.{slot_at-blank}
use Rattle.spec_history.specs.Machine.{saved, save_fault, save_memory, Saving, latest, initial, has_stack}
use Rattle.spec_history.specs.History.{Entry, starts, ends, next_index, MayEnd}
use Rattle.spec_history.proofs.Growing.{IsLegal-empty}
use Rattle.spec_history.proofs.TilesStay.{version-keeps}
use Rattle.spec_world.specs.declared.SaveEnd.{SaveEnd}
use Rattle.spec_world.specs.declared.SaveEnd.TheVariants.{Done, Fault, Memory}
use Rattle.spec_world.specs.World.{World, Job, document_now, result_of, stack_ids, first_world, free_entries}
use Rattle.spec_world.specs.Events.{Event, submits, takes, finishes, begins_save, ends_save, save_starts, start_where}
use Rattle.spec_world.specs.Events.{end_reply, end_where, MayHappen, after, Happen, place_of}
use Rattle.spec_world.specs.Right.{IsJob, InstallsRight, IsRight}
use Rattle.spec_world.specs.RightSlot.{DamageIsSound, DamageIsAlwaysSound, IsRightSlot}
use Rattle.spec_world.proofs.Lasting.{unchanged}
use Rattle.spec_world.proofs.SlotLaws.{right-start}
use Rattle.spec_world.proofs.Entered.{enters}
use Rattle.spec_world.specs.Standing.{IsStanding}
use Rattle.spec_world.proofs.Standing.{standing-entry}
use Rattle.spec_world.proofs.Filled.{slots-of-slot, is_installed, not-late, standing-finish}
use Rattle.spec_world.proofs.Stacks.{stacks-listed, slots_of-added, is_cache-all-added}
use Rattle.spec_world.proofs.Taken.{standing-take}
use Rattle.spec_world.proofs.Submitted.{keeps-enough, standing-submit}

-- ---- the start

pub start-slots : (base : Document) (stack : ℕ)
    → slots_of (first_world base).cache stack ≡ cond (has_stack base stack) (Some (blank_slots base.width base.height 0)) None
start-slots base stack =
    slots_of-added base 0 (stack_ids base) no_slots stack
    ∙ ap (λ b. cond b (Some (blank_slots base.width base.height 0)) None) (stacks-listed base stack)

pub standing-start : (base : Document) → IsStanding base (first_world base)
standing-start base = record {
  legal = IsLegal-empty base;
  replayed = refl;
  slots = is_cache-all-added base 0 (stack_ids base) no_slots (record { in_order = tt; of_canvas = tt });
  stacks = λ stack. ap is_some (start-slots base stack) ∙ some-where (has_stack base stack);
  seen = λ stack at. tt;
  each = λ stack at slot found. each-start stack at slot (has_stack base stack)
      (sym (ap (option_and_then (λ k. slot_at k at)) (start-slots base stack)) ∙ found);
  jobs = tt;
}
  where
    some-where : (b : Bool) → is_some (cond b (Some (blank_slots base.width base.height 0)) None) ≡ b
    some-where true = refl
    some-where false = refl

    each-start : (stack : ℕ) (at : TileAt) (slot : Slot) (b : Bool)
        → option_and_then (λ k. slot_at k at) (cond b (Some (blank_slots base.width base.height 0)) None) ≡ Some slot
        → IsRightSlot base (initial base) stack at None slot
    each-start stack at slot true e =
        subst (IsRightSlot base (initial base) stack at None) (sym (slot_at-blank base.width base.height 0 at slot e))
        (right-start base stack at)
    each-start stack at slot false e = absurd (true≢false (sym (ap is_some e)))

-- ---- saves

standing-starts : (base : Document) (w : World) (session : ℕ) (out : Option Saving) → IsStanding base w → w.state.out ≡ out
    → IsStanding base (start_where base w session out)
standing-starts base w session (Some out) is e = is
standing-starts base w session None is e =
    go (nat_lt (free_entries w) 2)
    (standing-entry base w entry is (enters base w.entries entry w.state is.legal is.replayed tt (refl, e, refl) tt) refl
    (λ stack at. refl))
  where
    entry : Entry
    entry = record { session = session; index = next_index w.entries session; kind = starts; reply = saved (latest w.state) }

    go : (b : Bool) → IsStanding base (save_starts base w session) → IsStanding base (cond b w (save_starts base w session))
    go true next = is
    go false next = next

pub may-end : (base : Document) (w : World) (out : Saving) (how : SaveEnd) → w.state.out ≡ Some out
    → MayEnd w.state.out out.session out.index (end_reply how out.version)
may-end base w out Done e = subst (λ o. MayEnd o out.session out.index (saved out.version)) (sym e) (refl, refl, refl)
may-end base w out Fault e = subst (λ o. MayEnd o out.session out.index (save_fault out.version)) (sym e) (refl, refl, refl)
may-end base w out Memory e = subst (λ o. MayEnd o out.session out.index (save_memory out.version)) (sym e) (refl, refl, refl)

standing-ends : (base : Document) (w : World) (how : SaveEnd) (out : Option Saving) → IsStanding base w → w.state.out ≡ out
    → IsStanding base (end_where base w how out)
standing-ends base w how None is e = is
standing-ends base w Done (Some out) is e =
    let entry : Entry = record { session = out.session; index = out.index; kind = ends; reply = saved out.version } in
    standing-entry base w entry is (enters base w.entries entry w.state is.legal is.replayed tt (may-end base w out Done e) tt) refl
    (λ stack at. refl)
standing-ends base w Fault (Some out) is e =
    let entry : Entry = record { session = out.session; index = out.index; kind = ends; reply = save_fault out.version } in
    standing-entry base w entry is (enters base w.entries entry w.state is.legal is.replayed tt (may-end base w out Fault e) tt) refl
    (λ stack at. refl)
standing-ends base w Memory (Some out) is e =
    let entry : Entry = record { session = out.session; index = out.index; kind = ends; reply = save_memory out.version } in
    standing-entry base w entry is (enters base w.entries entry w.state is.legal is.replayed tt (may-end base w out Memory e) tt) refl
    (λ stack at. refl)

-- ---- all events

standing-after : (base : Document) (w : World) (event : Event) → IsStanding base w → DamageIsAlwaysSound base → MayHappen w event
    → IsStanding base (after base w event)
standing-after base w (submits session call seen tables) is sound may = standing-submit base w session call seen tables is sound may.0 (may.1, may.2)
standing-after base w takes is sound may = standing-take base w is
standing-after base w (finishes number) is sound may =
    standing-finish base w number is (subst (DamageIsSound base) (sym is.replayed) (sound w.entries))
standing-after base w (begins_save session) is sound may = standing-starts base w session w.state.out is refl
standing-after base w (ends_save session how) is sound may = standing-ends base w how w.state.out is refl

standing-all : (base : Document) (old : World) (events : List Event) (new : World) → IsStanding base old → DamageIsAlwaysSound base
    → Happen base old events new → IsStanding base new
standing-all base old [] new is sound happen = subst (IsStanding base) (sym happen) is
standing-all base old (event ∷ events) new is sound happen =
    standing-all base (after base old event) events new (standing-after base old event is sound happen.0) sound happen.1

-- ---- what stands is right

installs : (base : Document) (w : World) (job : Job) → IsStanding base w → DamageIsSound base w.state → IsJob base w.state job
    → InstallsRight base w.state job w.cache
installs base w job is sound of_job finished = go (slot_of w.cache job.stack job.at) refl (finished)
  where
    gone : (o : Option Slot) → o ≡ None → finish_at job.version o ≡ Installed → ⊥
    gone o p q = true≢false (sym (ap is_installed (sym (ap (finish_at job.version) p) ∙ q)))

    go : (o : Option Slot) → slot_of w.cache job.stack job.at ≡ o → finish w.cache (place_of job) job.version ≡ Installed
        → result_of base w.state job ≡ project (document_now base w.state) job.stack job.at
    go None p q = absurd (gone (slot_of w.cache job.stack job.at) p q)
    go (Some slot) p q =
        let late = not-late job.version slot.marked_at (sym (ap (finish_at job.version) p) ∙ q) in
        let right = is.each job.stack job.at slot p in
        let has = sym (is.stacks job.stack) ∙ slots-of-slot w.cache job.stack job.at slot p in
        (unchanged base w.state job.stack job.at job.version (latest w.state) sound (omega arith) of_job.version has
        (subst (λ n. n ≤ job.version) right.mark late)).same

all-installs : (base : Document) (w : World) (jobs : List Job) → IsStanding base w → DamageIsSound base w.state
    → AllByRecursion (IsJob base w.state) jobs
    → AllByRecursion (λ job. InstallsRight base w.state job w.cache) jobs
all-installs base w [] is sound all = tt
all-installs base w (job ∷ jobs) is sound all = (installs base w job is sound all.0, all-installs base w jobs is sound all.1)

standing-right : (base : Document) (w : World) → IsStanding base w → DamageIsSound base w.state → IsRight base w
standing-right base w is sound = record {
  legal = is.legal;
  replayed = is.replayed;
  stacks = is.stacks;
  slots = is.slots;
  marks = λ stack at slot found. (is.each stack at slot found).mark;
  clean = λ stack at slot found. (is.each stack at slot found).clean;
  marked = λ stack at slot found. (is.each stack at slot found).marked;
  enough = λ stack at. keeps-enough base w stack at is;
  jobs = is.jobs;
  installs = all-installs base w w.jobs is sound is.jobs;
}

pub always-sound : (base : Document) → IsDocument base → DamageIsAlwaysSound base
always-sound base within es version first last = version-keeps base es version within first last

-- each world that stands is right
pub right : (base : Document) (w : World) → IsDocument base → IsStanding base w → IsRight base w
right base w within is =
    standing-right base w is (subst (DamageIsSound base) (sym is.replayed) (always-sound base within w.entries))

pub all-right : (base : Document) → IsDocument base → (events : List Event) (w : World) → Happen base (first_world base) events w
    → IsRight base w
all-right base within events w happen =
    right base w within (standing-all base (first_world base) events w (standing-start base) (always-sound base within) happen)
