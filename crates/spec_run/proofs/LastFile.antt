-- Where no save failed, the file has the version of the last save that was acknowledged.
use Rattle.std.proofs.Common.{◌≡◌, ℕ, ◌+◌, Bool, true, false, cond, List, [], ◌∷◌, Some, None, inl, inr, refl, ap, ◌∙◌}
use Rattle.std.proofs.Common.{arith, subst}
use Rattle.std.specs.Prelude.{fold, Option}
use Rattle.std.proofs.lemmas.List.Sums.{sum_by-cons}
use Rattle.spec_document.specs.Document.{Document}
use Rattle.spec_history.specs.Kept.{or_earlier}
use Rattle.spec_history.specs.Machine.{Reply, changed, refused, moved, nothing_to_undo, nothing_to_redo, not_top}
use Rattle.spec_history.specs.Machine.{tile_of, stale, saved, save_fault, save_memory, no_stack, outside_tile, top_is}
use Rattle.spec_history.specs.Machine.{history_full}
use Rattle.spec_history.specs.History.{Entry, Kind, asked, starts, ends}
use Rattle.spec_saves.specs.Names.{Named, the_old, version, after_kind, after_one, names, ends_by_fault, save_faults}
use Rattle.spec_saves.specs.Contents.{IsIn, IsVersion}
use Rattle.spec_saves.specs.Shelf.{DiskIsRight, IsSettled}
use Rattle.xl_ports.specs.Disk.{Disk, MayLeave, Between}
use Rattle.xl_ports.specs.Shelf.{Content}
use Rattle.spec_saves.specs.Acknowledged.{acknowledged}
use Rattle.spec_run.specs.LastSaved.{last_saved, HasVersion, HasLastSaved}

-- the name of this version alone, and without one the names from before
abbrev names_of : List Named → Option ℕ → List Named
names_of ns None = ns
names_of ns (Some v) = version v ∷ []

-- what an entry that is no fault makes of the names
named_once : (ns : List Named) (k : Kind) (r : Reply) → ends_by_fault k r ≡ false
    → after_kind ns k r ≡ names_of ns (acknowledged k r)
named_once ns (asked call tables) r none = refl
named_once ns starts r none = refl
named_once ns ends (saved v) none = refl
named_once ns ends (save_fault v) none = let bad : true ≡ false = none in cc
named_once ns ends (save_memory v) none = refl
named_once ns ends (changed new group next) none = refl
named_once ns ends (refused index cause) none = refl
named_once ns ends (moved now) none = refl
named_once ns ends nothing_to_undo none = refl
named_once ns ends nothing_to_redo none = refl
named_once ns ends (not_top top) none = refl
named_once ns ends (tile_of shown) none = refl
named_once ns ends (stale have seen) none = refl
named_once ns ends (no_stack node) none = refl
named_once ns ends outside_tile none = refl
named_once ns ends (top_is group now) none = refl
named_once ns ends history_full none = refl

later_first : (ns : List Named) (k : Kind) (r : Reply) (later : Option ℕ) → ends_by_fault k r ≡ false
    → names_of (after_kind ns k r) later ≡ names_of ns (or_earlier later (acknowledged k r))
later_first ns k r (Some v) none = refl
later_first ns k r None none = named_once ns k r none

names_are : (ns : List Named) (es : List Entry) → save_faults es ≡ 0 → fold after_one ns es ≡ names_of ns (last_saved es)
names_are ns [] none = refl
names_are ns (e ∷ es) none = go (ends_by_fault e.kind e.reply) refl (names_are (after_one ns e) es) where
  go : (b : Bool) → ends_by_fault e.kind e.reply ≡ b
      → (save_faults es ≡ 0 → fold after_one (after_one ns e) es ≡ names_of (after_one ns e) (last_saved es))
      → fold after_one ns (e ∷ es) ≡ names_of ns (last_saved (e ∷ es))
  go true is rest =
      let here : save_faults (e ∷ es) ≡ 1 + save_faults es =
      sum_by-cons (λ (x : Entry). cond (ends_by_fault x.kind x.reply) 1 0) e es
      ∙ ap (λ (b : Bool). cond b 1 0 + save_faults es) is in
      absurd (omega (arith, here, none))
  go false is rest =
      let here : save_faults (e ∷ es) ≡ 0 + save_faults es =
      sum_by-cons (λ (x : Entry). cond (ends_by_fault x.kind x.reply) 1 0) e es
      ∙ ap (λ (b : Bool). cond b 1 0 + save_faults es) is in
      rest (omega (arith, here, none)) ∙ later_first ns e.kind e.reply (last_saved es) is

-- what is left under one name
one_name : (base : Document) (es : List Entry) (name : List ℕ) (was now : Disk) (last : Option ℕ)
    → IsSettled (names_of (the_old ∷ []) last) name was now
    → ((c : Content) → MayLeave now name c → IsIn base es was name c (names_of (the_old ∷ []) last))
    → HasVersion name base es last was now
one_name base es name was now (Some v) settled leaves = (is_first (leaves (now.read name) (inl refl)), settled) where
  is_first : IsIn base es was name (now.read name) (version v ∷ []) → IsVersion base es v (now.read name)
  is_first (inl is) = is
  is_first (inr more) = absurd more
one_name base es name was now None settled leaves = (settled, λ c may. is_old c (leaves c may)) where
  is_old : (c : Content) → IsIn base es was name c (the_old ∷ []) → MayLeave was name c
  is_old c (inl is) = is
  is_old c (inr more) = absurd more

disk_has_last : (base : Document) (es : List Entry) (name : List ℕ) (was now : Disk) → save_faults es ≡ 0
    → DiskIsRight name base es was now → HasLastSaved name base es was now
disk_has_last base es name was now none right =
    let same : names es ≡ names_of (the_old ∷ []) (last_saved es) = names_are (the_old ∷ []) es none in
    one_name base es name was now (last_saved es) (subst (λ (ns : List Named). IsSettled ns name was now) same right.settled)
    (λ c may. subst (IsIn base es was name c) same (right.leaves c may))

pub has_last : (base : Document) (es : List Entry) (name : List ℕ) (was now : Option Disk) → save_faults es ≡ 0
    → Between was now (DiskIsRight name base es) → Between was now (HasLastSaved name base es)
has_last base es name None None none right = tt
has_last base es name None (Some now) none right = absurd right
has_last base es name (Some was) None none right = absurd right
has_last base es name (Some was) (Some now) none right = disk_has_last base es name was now none right
