-- What each event makes of a slot that is right.
use Rattle.std.proofs.Common.{◌≡◌, ℕ, zero, suc, ◌+◌, ◌-◌, ◌<◌, ◌≤◌, Bool, true, false, cond, not, ◌&&◌, ◌||◌, List}
use Rattle.std.proofs.Common.{refl, sym, ◌∙◌, ap, subst, true≢false, inl, inr, arith}
use Rattle.std.specs.Prelude.{Option, Some, None, IfSome, IsSome, IsSomeAnd, is_some, option_map, unwrap_or, find}
use Rattle.std.proofs.lemmas.Bool.{or_left, and_parts, cases_lt}
use Rattle.std.specs.List.{list_all}
use Rattle.spec_document.specs.declared.TileAt.{TileAt}
use Rattle.spec_document.specs.Rect.{count_from}
use Rattle.spec_document.specs.Document.{Document}
use Rattle.spec_document.specs.Picture.{project}
use Rattle.spec_cache.specs.Slots.{Slot, blank_slot, mark_slot, fill_slot, shown_as, shown_by}
use Rattle.spec_history.specs.Machine.{State, latest, document_at, initial, has_stack}
use Rattle.spec_history.specs.Kept.{damaged_at, kept_in}
use Rattle.spec_history.proofs.Bounds.{found_before}
use Rattle.spec_history.specs.TilesStay.{StackStays}
use Rattle.spec_history.specs.Marks.{came_at, marks, marked_at}
use Rattle.spec_world.specs.Right.{slot_after, IsPictureAt}
use Rattle.spec_world.specs.Events.{show_slot}
use Rattle.spec_world.specs.RightSlot.{DamageIsSound, WasGoodEnough, IsRightSlot}
use Rattle.spec_world.proofs.Lasting.{Lasts, stack-lasts, picture-lasts, was_there-before, good_enough-lasts}
use Rattle.spec_world.proofs.Lasting.{marked_at-lasts, marked_at-next, unmarked-same, unchanged}

no-some : {A : Type 0} (x : A) → None ≡ Some x → ⊥
no-some x e = true≢false (sym (ap is_some e))

some-same : {A : Type 0} (x y : A) → Some x ≡ Some y → x ≡ y
some-same x y e = ap (λ o. unwrap_or o x) e

damage-alone : (came damaged : Bool) → (came || damaged) ≡ true → came ≡ false → damaged ≡ true
damage-alone true damaged e stayed = absurd (true≢false stayed)
damage-alone false damaged e stayed = e

is-some : {A : Type 0} (o : Option A) (x : A) → o ≡ Some x → IsSome o
is-some o x e = ap is_some e

-- ---- the start, and entries that make no version

pub right-start : (base : Document) (stack : ℕ) (at : TileAt) → IsRightSlot base (initial base) stack at None (blank_slot 0)
right-start base stack at = record {
  mark = refl;
  clean = λ e. absurd (true≢false e);
  marked = λ e. tt;
  enough = λ a e. absurd (no-some a e);
}

if-picture-lasts : (base : Document) (s t : State) (stack : ℕ) (at : TileAt) (v : ℕ) (picture : Option (List ℕ)) → Lasts base s t
    → IfSome picture (IsPictureAt base s stack at v) → IfSome picture (IsPictureAt base t stack at v)
if-picture-lasts base s t stack at v None l is = tt
if-picture-lasts base s t stack at v (Some picture) l is = picture-lasts base s t stack at v picture l is

pub right-lasts : (base : Document) (s t : State) (stack : ℕ) (at : TileAt) (last : Option ℕ) (slot : Slot)
    → Lasts base s t → latest t ≡ latest s → IsRightSlot base s stack at last slot → IsRightSlot base t stack at last slot
right-lasts base s t stack at last slot l same right = record {
  mark = right.mark ∙ sym (marked_at-lasts base s t stack at l same);
  clean = λ e. right.clean e ∙ ap (λ d. Some (project d stack at))
      (sym (ap (document_at base t) same ∙ l.documents (latest s) (omega arith)));
  marked = λ e. if-picture-lasts base s t stack at slot.good_to slot.picture l (right.marked e);
  enough = λ a e there m.
      let old = right.enough a e (was_there-before base s t stack a l there) m in
      (old.0, good_enough-lasts base s t stack at a slot.good_to l old.1);
}

-- ---- a tile that is shown, and a result that is installed

full : (base : Document) (s : State) (stack : ℕ) (at : TileAt) (last other : Option ℕ) (slot : Slot) (picture : List ℕ)
    → IsRightSlot base s stack at last slot → picture ≡ project (document_at base s (latest s)) stack at
    → IsRightSlot base s stack at other (fill_slot picture slot)
full base s stack at last other slot picture right is = record {
  mark = right.mark;
  clean = λ e. ap Some is;
  marked = λ e. absurd (true≢false (sym e));
  enough = λ a e there m. absurd (true≢false (sym m));
}

pub right-shown : (base : Document) (s : State) (stack : ℕ) (at : TileAt) (last other : Option ℕ) (slot : Slot)
    → IsRightSlot base s stack at last slot
    → IsRightSlot base s stack at other (show_slot (project (document_at base s (latest s)) stack at) slot)
right-shown base s stack at last other slot right = go slot.marked refl
  where
    picture : List ℕ
    picture = project (document_at base s (latest s)) stack at

    go : (b : Bool) → slot.marked ≡ b → IsRightSlot base s stack at other (cond b (fill_slot picture slot) slot)
    go true e = full base s stack at last other slot picture right refl
    go false e = record {
      mark = right.mark;
      clean = right.clean;
      marked = λ m. absurd (true≢false (sym m ∙ e));
      enough = λ a l there m. absurd (true≢false (sym m ∙ e));
    }

-- of a job of a version from the slot's last mark on
pub right-installed : (base : Document) (s : State) (stack : ℕ) (at : TileAt) (last : Option ℕ) (slot : Slot) (version : ℕ)
    → DamageIsSound base s → has_stack (document_at base s (latest s)) stack ≡ true → version ≤ latest s → slot.marked_at ≤ version
    → IsRightSlot base s stack at last slot
    → IsRightSlot base s stack at last (fill_slot (project (document_at base s version) stack at) slot)
right-installed base s stack at last slot version sound has within late right =
    let le : marked_at base s stack at ≤ version = subst (λ n. n ≤ version) right.mark late in
    let same = unchanged base s stack at version (latest s) sound (omega arith) within has le in
    full base s stack at last last slot (project (document_at base s version) stack at) right same.same

-- ---- a version more

-- the versions of s, and one more
pub record OneMore (base : Document) (s t : State) : Type 0 where
  pub lasts : Lasts base s t
  pub next : latest t ≡ suc (latest s)

-- the version before the last one is the last one of s
pub before : (base : Document) (s t : State) → OneMore base s t → document_at base t (latest t - 1) ≡ document_at base s (latest s)
before base s t more =
    let next = more.next in
    let e : latest t - 1 ≡ latest s = omega arith in
    ap (document_at base t) e ∙ more.lasts.documents (latest s) (omega arith)

-- a stack that came has blank slots
pub right-came : (base : Document) (s t : State) (stack : ℕ) (at : TileAt) (last : Option ℕ) → OneMore base s t
    → IfSome last (λ a. a ≤ latest s)
    → has_stack (document_at base s (latest s)) stack ≡ false → has_stack (document_at base t (latest t)) stack ≡ true
    → IsRightSlot base t stack at last (blank_slot (latest t))
right-came base s t stack at last more seen gone has =
    let come : came_at base t stack (latest t) ≡ true =
    λ i. has i && not ((ap (λ d. has_stack d stack) (before base s t more) ∙ gone) i) in
    let marked = or_left (came_at base t stack (latest t)) (damaged_at base t stack at (latest t)) come in
    let next = more.next in
    record {
      mark = sym (marked_at-next base s t stack at more.lasts more.next
          ∙ ap (λ b. cond b (latest t) (marked_at base s stack at)) marked);
      clean = λ e. absurd (true≢false e);
      marked = λ e. tt;
      enough = λ a e there m.
          let bound : a ≤ latest s = subst (λ o. IfSome o (λ b. b ≤ latest s)) e seen in
          absurd (true≢false (sym (there (latest s) bound (omega arith))
          ∙ (stack-lasts base s t stack (latest s) more.lasts (omega arith) ∙ gone)));
    }

marked-picture : (base : Document) (t : State) (stack : ℕ) (at : TileAt) (old_good good : ℕ) (was : Bool)
    (picture : Option (List ℕ))
    → (was ≡ true → IfSome picture (IsPictureAt base t stack at old_good))
    → (was ≡ false → IfSome picture (IsPictureAt base t stack at good))
    → IfSome picture (IsPictureAt base t stack at (cond was old_good good))
marked-picture base t stack at old_good good true picture old new = old refl
marked-picture base t stack at old_good good false picture old new = new refl

enough-marked : (base : Document) (t : State) (stack : ℕ) (at : TileAt) (a old_good good : ℕ) (was : Bool)
    (picture : Option (List ℕ))
    → (was ≡ true → IsSome picture × WasGoodEnough base t stack at a old_good)
    → (was ≡ false → IsSome picture × WasGoodEnough base t stack at a good)
    → IsSome picture × WasGoodEnough base t stack at a (cond was old_good good)
enough-marked base t stack at a old_good good true picture old new = old refl
enough-marked base t stack at a old_good good false picture old new = new refl

-- a stack that stays has each slot marked where the version marks it, and as it was else
pub right-version : (base : Document) (s t : State) (stack : ℕ) (at : TileAt) (last : Option ℕ) (slot : Slot)
    → DamageIsSound base t → OneMore base s t → IfSome last (λ a. a ≤ latest s)
    → has_stack (document_at base s (latest s)) stack ≡ true → has_stack (document_at base t (latest t)) stack ≡ true
    → IsRightSlot base s stack at last slot → IsRightSlot base t stack at last (slot_after base t stack at slot)
right-version base s t stack at last slot sound more seen had has right = go (marks base t stack at (latest t)) refl
  where
    next : latest t ≡ suc (latest s)
    next = more.next

    was : document_at base t (latest t - 1) ≡ document_at base s (latest s)
    was = before base s t more

    go : (b : Bool) → marks base t stack at (latest t) ≡ b
        → IsRightSlot base t stack at last (cond b (mark_slot (latest t) slot) slot)
    go true e =
        let stayed : came_at base t stack (latest t) ≡ false =
        ap (λ b. has_stack (document_at base t (latest t)) stack && not b) (ap (λ d. has_stack d stack) was ∙ had)
        ∙ (λ i. has i && false) in
        let damaged : damaged_at base t stack at (latest t) ≡ true =
        damage-alone (came_at base t stack (latest t)) (damaged_at base t stack at (latest t)) e stayed in
        record {
          mark = sym (marked_at-next base s t stack at more.lasts next ∙ ap (λ b. cond b (latest t) (marked_at base s stack at)) e);
          clean = λ m. absurd (true≢false m);
          marked = λ m. marked-picture base t stack at slot.good_to (latest t - 1) slot.marked slot.picture
              (λ w. if-picture-lasts base s t stack at slot.good_to slot.picture more.lasts (right.marked w))
              (λ w. subst (λ o. IfSome o (IsPictureAt base t stack at (latest t - 1))) (sym (right.clean w))
              (record {
                there = omega arith;
                has = ap (λ d. has_stack d stack) was ∙ had;
                is =
                    ap (λ d. project d stack at) (sym was);
              }));
          enough = λ a l there m.
              let bound : a ≤ latest s = subst (λ o. IfSome o (λ b. b ≤ latest s)) l seen in
              enough-marked base t stack at a slot.good_to (latest t - 1) slot.marked slot.picture
              (λ w. let old = right.enough a l (was_there-before base s t stack a more.lasts there) w in
              (old.0, good_enough-lasts base s t stack at a slot.good_to more.lasts old.1))
              (λ w. (
                is-some slot.picture (project (document_at base s (latest s)) stack at) (right.clean w),
                record { version = latest t; later = omega arith; there = omega arith; damaged = damaged; good = omega arith },
              ));
        }
    go false e =
        let same = unmarked-same base t stack at (latest t) sound (omega arith) (omega arith) has e in
        let shows : project (document_at base s (latest s)) stack at ≡ project (document_at base t (latest t)) stack at =
        ap (λ d. project d stack at) (sym was) ∙ same.same in
        record {
          mark = right.mark ∙ sym (marked_at-next base s t stack at more.lasts next
              ∙ ap (λ b. cond b (latest t) (marked_at base s stack at)) e);
          clean = λ m. right.clean m ∙ ap Some shows;
          marked = λ m. if-picture-lasts base s t stack at slot.good_to slot.picture more.lasts (right.marked m);
          enough = λ a l there m.
              let old = right.enough a l (was_there-before base s t stack a more.lasts there) m in
              (old.0, good_enough-lasts base s t stack at a slot.good_to more.lasts old.1);
        }

-- ---- what is kept

pub shown-is : (base : Document) (s : State) (stack : ℕ) (at : TileAt) (last : Option ℕ) (slot : Slot)
    → has_stack (document_at base s (latest s)) stack ≡ true → IsRightSlot base s stack at last slot
    → IfSome (shown_by (latest s) slot) (λ k. IsPictureAt base s stack at k.version k.picture)
shown-is base s stack at last slot has right = go slot.marked slot.picture refl refl
  where
    go : (b : Bool) (picture : Option (List ℕ)) → slot.marked ≡ b → slot.picture ≡ picture
        → IfSome (shown_as (cond b slot.good_to (latest s)) picture) (λ k. IsPictureAt base s stack at k.version k.picture)
    go b None e p = tt
    go true (Some picture) e p = subst (λ o. IfSome o (IsPictureAt base s stack at slot.good_to)) p (right.marked e)
    go false (Some picture) e p = record {
      there = omega arith;
      has = has;
      is =
          some-same picture (project (document_at base s (latest s)) stack at) (sym p ∙ right.clean e);
    }

pub all-there : (p : ℕ → Bool) (first n : ℕ) → list_all p (count_from first n) ≡ true → (v : ℕ) → first ≤ v → v < first + n
    → p v ≡ true
all-there p first zero all v from below = absurd (omega (arith, from, below))
all-there p first (suc n) all v from below =
    let parts = and_parts (p first) (list_all p (count_from (suc first) n)) all in
    elim (cases_lt first v) as (λ _. p v ≡ true) [
      | inl above ↦ all-there p (suc first) n parts.1 v (omega arith) (omega arith)
      | inr not_above ↦ let e : v ≡ first = omega arith in ap p e ∙ parts.0
    ]

found-step : (p : ℕ → Bool) (first w top : ℕ) (b : Bool) (rest : Option ℕ) → p first ≡ b → first ≤ w → p w ≡ true
    → (suc first ≤ w → unwrap_or (option_map (λ x. x - 1) rest) top ≤ w - 1)
    → unwrap_or (option_map (λ x. x - 1) (cond b (Some first) rest)) top ≤ w - 1
found-step p first w top true rest e from passes later = omega (arith, from)
found-step p first w top false rest e from passes later =
    elim (cases_lt first w) as (λ _. unwrap_or (option_map (λ x. x - 1) rest) top ≤ w - 1) [
      | inl above ↦ later (omega (arith, above))
      | inr not_above ↦ let same : w ≡ first = omega (arith, from, not_above) in absurd (true≢false (sym passes ∙ (ap p same ∙ e)))
    ]

-- the first that passes is no later than one that does
found-before : (p : ℕ → Bool) (first n w top : ℕ) → first ≤ w → w < first + n → p w ≡ true
    → unwrap_or (option_map (λ x. x - 1) (find p (count_from first n))) top ≤ w - 1
found-before p first zero w top from below passes = absurd (omega (arith, from, below))
found-before p first (suc n) w top from below passes =
    found-step p first w top (p first) (find p (count_from (suc first) n)) refl from passes
    (λ above. found-before p (suc first) n w top above (omega (arith, below)) passes)

shown-late : (slot : Slot) (now least : ℕ) (b : Bool) (picture : Option (List ℕ)) → slot.marked ≡ b → slot.picture ≡ picture
    → IsSome slot.picture
    → least ≤ cond b slot.good_to now → IsSomeAnd (shown_as (cond b slot.good_to now) picture) (λ k. least ≤ k.version)
shown-late slot now least b None e p some le = absurd (true≢false (sym some ∙ ap is_some p))
shown-late slot now least b (Some picture) e p some le = le

-- what the slot keeps is no older than what the history keeps of its tile
pub kept-shown : (base : Document) (s : State) (stack : ℕ) (at : TileAt) (last : Option ℕ) (slot : Slot)
    → IfSome last (λ a. a ≤ latest s)
    → IsRightSlot base s stack at last slot
    → IfSome (kept_in base s stack at last) (λ least. IsSomeAnd (shown_by (latest s) slot) (λ k. least ≤ k.version))
kept-shown base s stack at None slot seen right = tt
kept-shown base s stack at (Some a) slot seen right =
    go (list_all (λ v. has_stack (document_at base s v) stack) (count_from a (latest s + 1 - a))) refl
  where
    least : ℕ
    least = unwrap_or (option_map (λ w. w - 1) (find (damaged_at base s stack at) (count_from (a + 1) (latest s - a)))) (latest s)

    now : least ≤ latest s
    now = found_before (damaged_at base s stack at) (a + 1) (latest s - a) (latest s) (omega arith)

    late : (there : StackStays base s stack a (latest s)) (b : Bool) → slot.marked ≡ b
        → IsSome slot.picture × (least ≤ cond b slot.good_to (latest s))
    late there true m =
        let enough = right.enough a refl there m in
        let w = enough.1 in
        let later = w.later in
        let within = w.there in
        let good = w.good in
        let first = found-before (damaged_at base s stack at) (a + 1) (latest s - a) w.version (latest s) (omega arith)
        (omega arith) w.damaged in
        (enough.0, omega (arith, first, good))
    late there false m = (is-some slot.picture (project (document_at base s (latest s)) stack at) (right.clean m), now)

    go : (b : Bool) → list_all (λ v. has_stack (document_at base s v) stack) (count_from a (latest s + 1 - a)) ≡ b
        → IfSome (cond b (Some least) None) (λ k. IsSomeAnd (shown_by (latest s) slot) (λ x. k ≤ x.version))
    go false e = tt
    go true e =
        let there : StackStays base s stack a (latest s) =
        λ v from within. all-there (λ v. has_stack (document_at base s v) stack) a (latest s + 1 - a) e v from
        (omega (arith, from, within)) in
        let both = late there slot.marked refl in
        shown-late slot (latest s) least slot.marked slot.picture refl refl both.0 both.1
