-- The shelf of a run is right from the run's beginning on.
use Rattle.std.proofs.Common.{◌≡◌, inl, inr, ℕ, ◌≤◌, List, [], ◌∷◌, Some, None, ap, sym, ◌∙◌, arith, subst}
use Rattle.std.specs.Prelude.{Option, unwrap_or, Contains}
use Rattle.spec_document.specs.Document.{Document}
use Rattle.spec_history.specs.History.{Entry}
use Rattle.xl_ports.specs.Shelf.{Content}
use Rattle.xl_ports.specs.Disk.{Disk, MayLeave, MightHaveLeft, Between, IsQuiet}
use Rattle.xl_ports.specs.State.{ShelfState}
use Rattle.xl_ports.proofs.Moments.{others_then, quiet_others}
use Rattle.spec_saves.specs.Names.{Named, the_old, version, names, save_faults}
use Rattle.spec_saves.specs.Contents.{IsNamed, IsIn}
use Rattle.spec_saves.specs.Shelf.{file_name, ShelfIsRight, DiskIsRight, IsSettled, RoseOften}

named_earlier : (base : Document) (es : List Entry) (before after : Disk) (name : List ℕ) (c : Content) (n : Named)
    → IsQuiet before after
    → IsNamed base es after name c n → IsNamed base es before name c n
named_earlier base es before after name c the_old quiet (inl is) = inl (is ∙ (quiet.stays name).read)
named_earlier base es before after name c the_old quiet (inr other) =
    inr (subst (λ (cs : List Content). Contains cs c) (quiet.stays name).others other)
named_earlier base es before after name c (version v) quiet is = is

in_earlier : (base : Document) (es : List Entry) (before after : Disk) (name : List ℕ) (c : Content) (ns : List Named)
    → IsQuiet before after
    → IsIn base es after name c ns → IsIn base es before name c ns
in_earlier base es before after name c [] quiet is = is
in_earlier base es before after name c (n ∷ ns) quiet (inl is) = inl (named_earlier base es before after name c n quiet is)
in_earlier base es before after name c (n ∷ ns) quiet (inr is) = inr (in_earlier base es before after name c ns quiet is)

settled_earlier : (before after now : Disk) (name : List ℕ) (ns : List Named) → IsQuiet before after → IsSettled ns name after now
    → IsSettled ns name before now
settled_earlier before after now name [] quiet is = tt
settled_earlier before after now name (the_old ∷ []) quiet is = is ∙ (quiet.stays name).read
settled_earlier before after now name (version v ∷ []) quiet is = is
settled_earlier before after now name (one ∷ two ∷ more) quiet is = tt

pub quiet_left : (before after : Disk) (name : List ℕ) (since : ℕ) (c : Content) → IsQuiet before after → since ≤ before.moment
    → MightHaveLeft after name since c → MightHaveLeft before name since c
quiet_left before after name since c quiet le was = elim (quiet.time.nothing_else name since c le was) [
  | inl left ↦ left
  | inr may ↦ inl (now_and_then may)
] where
  now_and_then : MayLeave after name c → MayLeave before name c
  now_and_then (inl is) = inl (is ∙ (quiet.stays name).read)
  now_and_then (inr other) = inr (subst (λ (cs : List Content). Contains cs c) (quiet.stays name).others other)

disk_earlier : (base : Document) (es : List Entry) (before after now : Disk) (name : List ℕ) → IsQuiet before after
    → DiskIsRight name base es after now → DiskIsRight name base es before now
disk_earlier base es before after now name quiet right =
    let first = quiet.time.later in
    let then = right.later in
    record {
      later = omega arith;
      leaves = λ c may. in_earlier base es before after name c (names es) quiet (right.leaves c may);
      left = λ since c le was. elim (right.left since c (omega (arith, le, first)) was) [
        | inl left ↦ inl (quiet_left before after name since c quiet le left)
        | inr is ↦ inr is
      ];
      settled = settled_earlier before after now name (names es) quiet right.settled;
      elsewhere = others_then before after now name (quiet_others before after name quiet) right.elsewhere;
    }

disks_earlier : (base : Document) (es : List Entry) (before after now : Option Disk) (name : List ℕ) → Between before after IsQuiet
    → Between after now (DiskIsRight name base es)
    → Between before now (DiskIsRight name base es)
disks_earlier base es None None None name quiet right = tt
disks_earlier base es None None (Some now) name quiet right = absurd right
disks_earlier base es None (Some after) now name quiet right = absurd quiet
disks_earlier base es (Some before) None now name quiet right = absurd quiet
disks_earlier base es (Some before) (Some after) None name quiet right = absurd right
disks_earlier base es (Some before) (Some after) (Some now) name quiet right =
    disk_earlier base es before after now name quiet right

-- what was right since the document was opened is right since before the file was read
pub right_earlier : (before after now : ShelfState) (base : Document) (es : List Entry) → before.selected ≡ after.selected
    → now.loads ≡ before.loads → before.reading ≡ after.reading → before.saving ≡ after.saving
    → Between before.disk after.disk IsQuiet → ShelfIsRight after base es now → ShelfIsRight before base es now
right_earlier before after now base es selected loads reading saving quiet right =
    let same : file_name after ≡ file_name before = ap (λ (o : Option (List ℕ)). unwrap_or o []) (sym selected) in
    record {
      selected = right.selected ∙ sym selected;
      loads = loads;
      reading = right.reading ∙ sym reading;
      saving_rose = subst (λ (n : ℕ). RoseOften (save_faults es) n now.saving) (sym saving) right.saving_rose;
      saving_stays = λ none. right.saving_stays none ∙ sym saving;
      contents = disks_earlier base es before.disk after.disk now.disk (file_name before) quiet
          (subst (λ (n : List ℕ). Between after.disk now.disk (DiskIsRight n base es)) same right.contents);
    }
