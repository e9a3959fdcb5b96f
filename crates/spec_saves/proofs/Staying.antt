-- What the file may hold stays while entries come behind.
use Rattle.std.proofs.Common.{◌≡◌, inl, inr, ⊎_elim, ℕ, ◌+◌, ◌<◌, ◌≤◌, List, [], ◌∷◌, ◌++◌, length, length-append}
use Rattle.std.proofs.Common.{zero, suc, cond, refl, sym, ◌∙◌, subst, arith}
use Rattle.std.specs.Prelude.{false, Contains, slice_index_or, Option, Some, None, IsSome}
use Rattle.std.specs.List.{AllByRecursion}
use Rattle.std.proofs.lemmas.List.{get_or_append_left}
use Rattle.std.proofs.lemmas.List.Sums.{sum_by_push, fold_push}
use Rattle.std.proofs.lemmas.List.Concat.{flat_map-append}
use Rattle.spec_document.specs.Document.{Document}
use Rattle.spec_layout.specs.Layout.{Written}
use Rattle.spec_history.specs.Machine.{Saving, latest}
use Rattle.spec_history.specs.History.{Kind, asked, starts, ends, Entry, is_end_kind, replay, Run}
use Rattle.spec_history.proofs.Growing.{document_of-append}
use Rattle.xl_ports.specs.Shelf.{Content, absent, file}
use Rattle.xl_ports.specs.Disk.{Disk, Between}
use Rattle.xl_ports.specs.State.{ShelfState}
use Rattle.xl_ports.proofs.Moments.{weaker, others_still}
use Rattle.spec_saves.specs.Names.{Named, the_old, version, after_one, after_kind, names, with_out, versions_of}
use Rattle.spec_saves.specs.Names.{saved_versions, ends_by_fault, save_faults, is_start, saves_started, version_out}
use Rattle.spec_saves.specs.Contents.{IsVersion, IsSaved, IsNamed, IsIn}
use Rattle.spec_saves.specs.Shelf.{file_name, IsSettled, DiskIsRight, RoseOften, ShelfIsRight}
use Rattle.spec_saves.proofs.Bounds.{IsThere, bounded}

-- ---- one entry more

pub names-snoc : (es : List Entry) (e : Entry) → names (es ++ e ∷ []) ≡ after_one (names es) e
names-snoc es e = fold_push after_one (the_old ∷ []) es e

pub save_faults-snoc : (es : List Entry) (e : Entry)
    → save_faults (es ++ e ∷ []) ≡ save_faults es + cond (ends_by_fault e.kind e.reply) 1 0
save_faults-snoc es e = sum_by_push (λ x. cond (ends_by_fault x.kind x.reply) 1 0) es e

pub saves_started-snoc : (es : List Entry) (e : Entry)
    → saves_started (es ++ e ∷ []) ≡ saves_started es + cond (is_start e.kind) 1 0
saves_started-snoc es e = sum_by_push (λ x. cond (is_start x.kind) 1 0) es e

pub saved_versions-append : (es more : List Entry) → saved_versions (es ++ more) ≡ saved_versions es ++ saved_versions more
saved_versions-append es more = flat_map-append (λ x. versions_of x.kind x.reply) es more

pub with_some : (ns : List Named) (out : Option Saving) → IsSome out → with_out ns out ≡ ns ++ version (version_out out) ∷ []
with_some ns None some = absurd (cc some)
with_some ns (Some out) some = refl

-- ---- contents

pub stays_version : (base : Document) (es more : List Entry) (v : ℕ) → v ≤ latest (replay base es) → (c : Content)
    → IsVersion base es v c → IsVersion base (es ++ more) v c
stays_version base es more v there absent is = absurd is
stays_version base es more v there (file bytes) is =
    subst (λ d. Written bytes d) (sym (document_of-append base es more v there)) is

stays_named : (base : Document) (es : List Entry) (e : Entry) (opened : Disk) (name : List ℕ) (c : Content) (n : Named)
    → IsThere (latest (replay base es)) n → IsNamed base es opened name c n → IsNamed base (es ++ e ∷ []) opened name c n
stays_named base es e opened name c the_old there is = is
stays_named base es e opened name c (version v) there is = stays_version base es (e ∷ []) v there c is

pub stays_in : (base : Document) (es : List Entry) (e : Entry) (opened : Disk) (name : List ℕ) (c : Content) (ns : List Named)
    → AllByRecursion (IsThere (latest (replay base es))) ns → IsIn base es opened name c ns
    → IsIn base (es ++ e ∷ []) opened name c ns
stays_in base es e opened name c [] all is = absurd is
stays_in base es e opened name c (n ∷ ns) all (inl this) = inl (stays_named base es e opened name c n all.0 this)
stays_in base es e opened name c (n ∷ ns) all (inr more) = inr (stays_in base es e opened name c ns all.1 more)

all_at : (last : ℕ) (vs : List ℕ) (k d : ℕ) → k < length vs → AllByRecursion (λ v. v ≤ last) vs → slice_index_or vs k d ≤ last
all_at last [] k d lt all = absurd (omega (arith, lt))
all_at last (v ∷ vs) zero d lt all = all.0
all_at last (v ∷ vs) (suc k) d lt all = all_at last vs k d (omega (arith, lt)) all.1

contains_more : (vs ws : List ℕ) (v : ℕ) → Contains vs v → Contains (vs ++ ws) v
contains_more vs ws v at =
    let within = at.1 in (at.0, simp length-append (omega (arith, within)), get_or_append_left vs ws v at.0 at.1 ∙ at.2)

pub stays_saved : (base : Document) (es more : List Entry) → Run base es → (c : Content) → IsSaved base es c
    → IsSaved base (es ++ more) c
stays_saved base es more run c is =
    let v = is.v in
    let at = is.left in
    let all = (bounded base es run).versions in
    let there : v ≤ latest (replay base es) =
    subst (λ n. n ≤ latest (replay base es)) at.2 (all_at (latest (replay base es)) (saved_versions es) at.0 v at.1 all) in
    record {
      v = v;
      left = subst (λ vs. Contains vs v) (sym (saved_versions-append es more))
          (contains_more (saved_versions es) (saved_versions more) v at);
      is = stays_version base es more v there c is.is;
    }

-- ---- an entry that ends no save

same_names : (ns : List Named) (e : Entry) (kind : Kind) → is_end_kind kind ≡ false → after_kind ns kind e.reply ≡ ns
same_names ns e (asked call tables) no_end = refl
same_names ns e starts no_end = refl
same_names ns e ends no_end = absurd (cc no_end)

no_fault : (e : Entry) (kind : Kind) → is_end_kind kind ≡ false → ends_by_fault kind e.reply ≡ false
no_fault e (asked call tables) no_end = refl
no_fault e starts no_end = refl
no_fault e ends no_end = absurd (cc no_end)

stays_disk : (name : List ℕ) (base : Document) (es : List Entry) (e : Entry) → Run base es → names (es ++ e ∷ []) ≡ names es
    → (opened now : Disk)
    → DiskIsRight name base es opened now → DiskIsRight name base (es ++ e ∷ []) opened now
stays_disk name base es e run same opened now right = record {
  later = right.later;
  leaves = λ c may. subst (IsIn base (es ++ e ∷ []) opened name c) (sym same)
      (stays_in base es e opened name c (names es) (bounded base es run).names (right.leaves c may));
  left = λ since c le left. ⊎_elim (λ was. inl was) (λ is. inr (stays_saved base es (e ∷ []) run c is)) (right.left since c le left);
  settled = subst (λ ns. IsSettled ns name opened now) (sym same) right.settled;
  elsewhere = right.elsewhere;
}

pub stays_right : (opening now : ShelfState) (base : Document) (es : List Entry) (e : Entry) → Run base es → is_end_kind e.kind ≡ false
    → ShelfIsRight opening base es now → ShelfIsRight opening base (es ++ e ∷ []) now
stays_right opening now base es e run no_end right =
    let faults : save_faults (es ++ e ∷ []) ≡ save_faults es = save_faults-snoc es e
    ∙ rw (no_fault e e.kind no_end) (omega arith) in
    record {
      selected = right.selected;
      loads = right.loads;
      reading = right.reading;
      saving_rose = subst (λ n. RoseOften n opening.saving now.saving) (sym faults) right.saving_rose;
      saving_stays = λ none. right.saving_stays (sym faults ∙ none);
      contents = weaker (DiskIsRight (file_name opening) base es) (DiskIsRight (file_name opening) base (es ++ e ∷ []))
          (stays_disk (file_name opening) base es e run (names-snoc es e ∙ same_names (names es) e e.kind no_end)) opening.disk
          now.disk right.contents;
    }

-- ---- the opening

opened_disk : (name : List ℕ) (base : Document) (disk : Option Disk) → Between disk disk (DiskIsRight name base [])
opened_disk name base None = tt
opened_disk name base (Some d) =
    record {
      later = omega arith;
      leaves = λ c may. inl may;
      left = λ since c le left. inl left;
      settled = refl;
      elsewhere = others_still d name;
    }

pub opened_right : (opening : ShelfState) (base : Document) → ShelfIsRight opening base [] opening
opened_right opening base = record {
  selected = refl;
  loads = refl;
  reading = refl;
  saving_rose = inl (omega arith);
  saving_stays = λ none. refl;
  contents = opened_disk (file_name opening) base opening.disk;
}
