-- A save ends, and the shelf comes back.
use Rattle.std.proofs.Common.{◌≡◌, ◌⊎◌, inl, inr, ⊎_elim, ℕ, ◌+◌, ◌<◌, ◌≤◌, List, [], ◌∷◌, ◌++◌, length, cond, refl}
use Rattle.std.proofs.Common.{sym, ◌∙◌, ap, subst, arith}
use Rattle.std.proofs.lemmas.List.Elements.{Contains-push}
use Rattle.std.specs.Prelude.{Option, Some, None, IsSome, Contains}
use Rattle.spec_document.specs.Document.{Document}
use Rattle.spec_history.specs.Machine.{Saving, latest}
use Rattle.spec_history.specs.History.{ends, Entry, replay, Run}
use Rattle.spec_world.specs.declared.SaveEnd.{SaveEnd}
use Rattle.spec_world.specs.declared.SaveEnd.TheVariants.{Done, Fault, Memory}
use Rattle.spec_world.specs.Events.{end_reply}
use Rattle.xl_ports.specs.Shelf.{Content}
use Rattle.xl_ports.specs.Disk.{Disk, MightHaveLeft, Between, OthersStay}
use Rattle.xl_ports.proofs.Moments.{others_then}
use Rattle.xl_ports.specs.State.{ShelfState}
use Rattle.spec_saves.specs.Names.{Named, the_old, version, names, files, version_out, out_version, ends_by_fault, save_faults}
use Rattle.spec_saves.specs.Names.{saved_versions}
use Rattle.spec_saves.specs.Contents.{IsVersion, IsSaved, IsIn}
use Rattle.spec_saves.specs.Shelf.{file_name, IsSettled, DiskIsRight, RoseOften, ShelfIsRight}
use Rattle.spec_saves.specs.Returns.{end_entry, Among, DiskReturns, CountEnds, MayBeSaved, Returns}
use Rattle.spec_saves.proofs.Bounds.{IsOutThere, one_more_name, bounded}
use Rattle.spec_saves.proofs.Staying.{names-snoc, save_faults-snoc, saved_versions-append, with_some, stays_version, stays_in, stays_saved}

-- two names are not one
two_names : (ns : List Named) (v : ℕ) (name : List ℕ) (opened now : Disk) → 0 < length ns
    → IsSettled (ns ++ version v ∷ []) name opened now
two_names [] v name opened now some = absurd (omega (arith, some))
two_names (the_old ∷ []) v name opened now some = tt
two_names (version w ∷ []) v name opened now some = tt
two_names (the_old ∷ two ∷ more) v name opened now some = tt
two_names (version w ∷ two ∷ more) v name opened now some = tt

out_there : (last : ℕ) (out : Option Saving) → IsOutThere last out → version_out out ≤ last
out_there last None there = omega arith
out_there last (Some out) there = there

rose_once_more : (how : SaveEnd) (faults old mid new : ℕ) → RoseOften faults old mid → CountEnds how mid new
    → RoseOften (faults + cond (ends_by_fault ends (end_reply how 0)) 1 0) old new
rose_once_more Done faults old mid new rose count =
    subst (λ n. RoseOften (faults + 0) old n) (sym count) (⊎_elim (λ le. inl (omega (arith, le))) (λ le. inr le) rose)
rose_once_more Memory faults old mid new rose count =
    subst (λ n. RoseOften (faults + 0) old n) (sym count) (⊎_elim (λ le. inl (omega (arith, le))) (λ le. inr le) rose)
rose_once_more Fault faults old mid new rose (inl less) =
    ⊎_elim (λ le. inl (omega (arith, le, less))) (λ le. inr (omega (arith, le, less))) rose
rose_once_more Fault faults old mid new rose (inr stands) = inr (rw (stands.1, stands.0) (omega arith))

module _ (name : List ℕ) (base : Document) (es : List Entry) (run : Run base es) (out : IsSome (replay base es).out)
    (session index : ℕ) (opened handed now : Disk) where
  abbrev ended : SaveEnd → List Entry
  ended how = es ++ end_entry base es session index how ∷ []

  v_there : out_version base es ≤ latest (replay base es)
  v_there = out_there (latest (replay base es)) (replay base es).out (bounded base es run).out

  -- the version that was out is one that an ended save may have left
  ended_left : (how : SaveEnd) → saved_versions (end_entry base es session index how ∷ []) ≡ out_version base es ∷ []
      → (c : Content) → IsVersion base es (out_version base es) c → IsSaved base (ended how) c
  ended_left how last c is =
      let e = end_entry base es session index how in
      let v = out_version base es in
      let all : saved_versions (ended how) ≡ saved_versions es ++ v ∷ [] = saved_versions-append es (e ∷ []) ∙ ap (λ vs. saved_versions es ++ vs) last in
      record {
        v = v;
        left = subst (λ vs. Contains vs v) (sym all) (Contains-push (saved_versions es) v);
        is = stays_version base es (e ∷ []) v v_there c is;
      }

  saved_by : (how : SaveEnd) (c : Content) → MayBeSaved how base es c → IsSaved base (ended how) c
  saved_by Done c (inl is) = stays_saved base es (end_entry base es session index Done ∷ []) run c is
  saved_by Done c (inr is) = ended_left Done refl c is
  saved_by Fault c (inl is) = stays_saved base es (end_entry base es session index Fault ∷ []) run c is
  saved_by Fault c (inr is) = ended_left Fault refl c is
  saved_by Memory c is = stays_saved base es (end_entry base es session index Memory ∷ []) run c is

  left : (how : SaveEnd) → DiskReturns name base es how opened handed now → (since : ℕ) (c : Content) → since ≤ opened.moment
      → MightHaveLeft now name since c
      → MightHaveLeft opened name since c ⊎ IsSaved base (ended how) c
  left how back since c le might =
      ⊎_elim (λ was. inl was) (λ may. inr (saved_by how c may)) (back.left since c le might)

  done : opened.moment ≤ handed.moment → OthersStay name opened handed → DiskReturns name base es Done opened handed now
      → DiskIsRight name base (ended Done) opened now
  done later others back =
      let e = end_entry base es session index Done in
      let is : names (ended Done) ≡ version (out_version base es) ∷ [] = names-snoc es e in
      let back_later = back.later in
      record {
        later = omega (arith, later, back_later);
        leaves = λ c may. subst (IsIn base (ended Done) opened name c) (sym is)
            (inl (subst (IsVersion base (ended Done) (out_version base es)) (sym (back.ends.1 c may))
            (stays_version base es (e ∷ []) (out_version base es) v_there (now.read name) back.ends.0)));
        left = left Done back;
        settled = subst (λ ns. IsSettled ns name opened now) (sym is) back.ends.1;
        elsewhere = others_then opened handed now name others back.elsewhere;
      }

  fault : opened.moment ≤ handed.moment → OthersStay name opened handed → DiskReturns name base es Fault opened handed now
      → DiskIsRight name base (ended Fault) opened now
  fault later others back =
      let e = end_entry base es session index Fault in
      let is : names (ended Fault) ≡ names es ++ version (out_version base es) ∷ [] = names-snoc es e in
      let all : files base es ≡ names es ++ version (out_version base es) ∷ [] = with_some (names es) (replay base es).out out in
      let there = one_more_name (latest (replay base es)) (names es) (version (out_version base es))
      (bounded base es run).names v_there in
      let back_later = back.later in
      record {
        later = omega (arith, later, back_later);
        leaves = λ c may. subst (IsIn base (ended Fault) opened name c) (sym is)
            (stays_in base es e opened name c (names es ++ version (out_version base es) ∷ []) there
            (subst (IsIn base es opened name c) all (back.ends c may)));
        left = left Fault back;
        settled = subst (λ ns. IsSettled ns name opened now) (sym is)
            (two_names (names es) (out_version base es) name opened now (bounded base es run).some);
        elsewhere = others_then opened handed now name others back.elsewhere;
      }

  memory : opened.moment ≤ handed.moment → OthersStay name opened handed → DiskReturns name base es Memory opened handed now
      → DiskIsRight name base (ended Memory) opened now
  memory later others back =
      let e = end_entry base es session index Memory in
      let is : names (ended Memory) ≡ names es = names-snoc es e in
      let back_later = back.later in
      record {
        later = omega (arith, later, back_later);
        leaves = λ c may. subst (IsIn base (ended Memory) opened name c) (sym is)
            (stays_in base es e opened name c (names es) (bounded base es run).names (back.ends.0 c may));
        left = left Memory back;
        settled = subst (λ ns. IsSettled ns name opened now) (sym is) back.ends.1;
        elsewhere = others_then opened handed now name others back.elsewhere;
      }

  ends_disk : (how : SaveEnd) → opened.moment ≤ handed.moment → OthersStay name opened handed → DiskReturns name base es how opened handed now
      → DiskIsRight name base (ended how) opened now
  ends_disk Done later others back = done later others back
  ends_disk Fault later others back = fault later others back
  ends_disk Memory later others back = memory later others back

ends_contents : (name : List ℕ) (base : Document) (es : List Entry) (run : Run base es) (out : IsSome (replay base es).out)
    (session index : ℕ) (how : SaveEnd)
    (opened handed now : Option Disk) → Between opened handed (DiskIsRight name base es)
    → Among opened handed now (DiskReturns name base es how)
    → Between opened now (DiskIsRight name base (es ++ end_entry base es session index how ∷ []))
ends_contents name base es run out session index how None None None right back = tt
ends_contents name base es run out session index how (Some o) (Some h) (Some n) right back =
    ends_disk name base es run out session index o h n how right.later right.elsewhere back
ends_contents name base es run out session index how None None (Some n) right back = absurd back
ends_contents name base es run out session index how None (Some h) now right back = absurd right
ends_contents name base es run out session index how (Some o) None now right back = absurd right
ends_contents name base es run out session index how (Some o) (Some h) None right back = absurd back

-- whether an end is by a fault does not hang on the version
fault_or_not : (how : SaveEnd) (v : ℕ) → ends_by_fault ends (end_reply how v) ≡ ends_by_fault ends (end_reply how 0)
fault_or_not Done v = refl
fault_or_not Fault v = refl
fault_or_not Memory v = refl

-- where no save ended by a fault, this one did not either
count_stays : (how : SaveEnd) (faults old mid new : ℕ) → faults + cond (ends_by_fault ends (end_reply how 0)) 1 0 ≡ 0
    → CountEnds how mid new
    → (faults ≡ 0 → mid ≡ old) → new ≡ old
count_stays Done faults old mid new none count stays = count ∙ stays (omega (arith, none))
count_stays Memory faults old mid new none count stays = count ∙ stays (omega (arith, none))
count_stays Fault faults old mid new none count stays = absurd (omega (arith, none))

pub comes_back_right : (opening handed now : ShelfState) (base : Document) (es : List Entry) (session index : ℕ) (how : SaveEnd)
    → Run base es → IsSome (replay base es).out
    → ShelfIsRight opening base es handed → Returns opening handed base es how now
    → ShelfIsRight opening base (es ++ end_entry base es session index how ∷ []) now
comes_back_right opening handed now base es session index how run out right back =
    let e = end_entry base es session index how in
    let faults : save_faults (es ++ e ∷ []) ≡ save_faults es + cond (ends_by_fault ends (end_reply how 0)) 1 0 =
    save_faults-snoc es e ∙ ap (λ b. save_faults es + cond b 1 0) (fault_or_not how (out_version base es)) in
    record {
      selected = back.selected;
      loads = back.loads ∙ right.loads;
      reading = back.reading ∙ right.reading;
      saving_rose = subst (λ n. RoseOften n opening.saving now.saving) (sym faults)
          (rose_once_more how (save_faults es) opening.saving handed.saving now.saving right.saving_rose back.saving);
      saving_stays = λ none. count_stays how (save_faults es) opening.saving handed.saving now.saving (sym faults
          ∙ none) back.saving right.saving_stays;
      contents = ends_contents (file_name opening) base es run out session index how opening.disk handed.disk now.disk
          right.contents back.contents;
    }
