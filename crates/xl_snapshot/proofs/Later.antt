-- A shelf that comes back from a save does so too where entries came since the save's start that neither start nor end one.
use Rattle.std.proofs.Common.{◌≡◌, inl, inr, ℕ, ◌≤◌, List, ◌++◌, Some, None, ap, sym, ◌∙◌, arith, subst}
use Rattle.std.specs.Prelude.{Option, IfSome}
use Rattle.std.specs.List.{AllByRecursion}
use Rattle.spec_document.specs.Document.{Document}
use Rattle.spec_history.specs.Machine.{Saving, latest}
use Rattle.spec_history.specs.History.{Entry, replay}
use Rattle.spec_history.specs.Kept.{IsLegal}
use Rattle.spec_world.specs.declared.SaveEnd.{SaveEnd}
use Rattle.spec_world.specs.declared.SaveEnd.TheVariants.{Done, Fault, Memory}
use Rattle.xl_ports.specs.Shelf.{Content}
use Rattle.xl_ports.specs.Disk.{Disk}
use Rattle.xl_ports.specs.State.{ShelfState}
use Rattle.spec_saves.specs.Names.{Named, names, files, version_out, with_out, out_version}
use Rattle.spec_saves.specs.Contents.{IsVersion, IsIn}
use Rattle.spec_saves.specs.Shelf.{IsSettled, file_name}
use Rattle.spec_saves.specs.Returns.{Among, EndsOn, DiskReturns, MayBeSaved, Returns}
use Rattle.spec_saves.proofs.Staying.{stays_version, stays_saved}
use Rattle.xl_snapshot.proofs.Returning.{IsThere, AreThere, one_more, names_there, in_stays}

files_there : (last : ℕ) (ns : List Named) (out : Option Saving) → AllByRecursion (IsThere last) ns
    → IfSome out (λ o. o.version ≤ last) → AllByRecursion (IsThere last) (with_out ns out)
files_there last ns None named going = named
files_there last ns (Some o) named going = one_more last o.version ns named going

version_low : (last : ℕ) (out : Option Saving) → IfSome out (λ o. o.version ≤ last) → version_out out ≤ last
version_low last None going = omega arith
version_low last (Some o) going = going

module _ (base : Document) (es more : List Entry) (legal : IsLegal base es) (same : names (es ++ more) ≡ names es)
    (out : (replay base (es ++ more)).out ≡ (replay base es).out) where
  there : AreThere (replay base es) (names es)
  there = names_there base es legal

  files_same : files base (es ++ more) ≡ files base es
  files_same = ap (λ (ns : List Named). with_out ns (replay base (es ++ more)).out) same ∙ ap (with_out (names es)) out

  in_files : (opened : Disk) (name : List ℕ) (c : Content) → IsIn base es opened name c (files base es)
      → IsIn base (es ++ more) opened name c (files base (es ++ more))
  in_files opened name c is =
      subst (IsIn base (es ++ more) opened name c) (sym files_same)
      (in_stays base es more opened name c (files base es)
      (files_there (latest (replay base es)) (names es) (replay base es).out there.named there.going) is)

  in_names : (opened : Disk) (name : List ℕ) (c : Content) → IsIn base es opened name c (names es)
      → IsIn base (es ++ more) opened name c (names (es ++ more))
  in_names opened name c is =
      subst (IsIn base (es ++ more) opened name c) (sym same) (in_stays base es more opened name c (names es) there.named is)

  -- a file of the version that is out
  out_later : (c : Content) → IsVersion base es (out_version base es) c
      → IsVersion base (es ++ more) (out_version base (es ++ more)) c
  out_later c is =
      subst (λ (v : ℕ). IsVersion base (es ++ more) v c) (sym (ap version_out out))
      (stays_version base es more (out_version base es) (version_low (latest (replay base es)) (replay base es).out there.going) c is)

  saved_later : (how : SaveEnd) (c : Content) → MayBeSaved how base es c → MayBeSaved how base (es ++ more) c
  saved_later Done c (inl is) = inl (stays_saved base es more legal.run c is)
  saved_later Done c (inr is) = inr (out_later c is)
  saved_later Fault c (inl is) = inl (stays_saved base es more legal.run c is)
  saved_later Fault c (inr is) = inr (out_later c is)
  saved_later Memory c is = stays_saved base es more legal.run c is

  ends_later : (how : SaveEnd) (name : List ℕ) (opened now : Disk) → EndsOn how name base es opened now
      → EndsOn how name base (es ++ more) opened now
  ends_later Done name opened now ends = (out_later (now.read name) ends.0, ends.1)
  ends_later Fault name opened now ends = λ c may. in_files opened name c (ends c may)
  ends_later Memory name opened now ends = (
    λ c may. in_names opened name c (ends.0 c may),
    subst (λ (ns : List Named). IsSettled ns name opened now) (sym same) ends.1,
  )

  disk_later : (how : SaveEnd) (name : List ℕ) (opened handed now : Disk) → DiskReturns name base es how opened handed now
      → DiskReturns name base (es ++ more) how opened handed now
  disk_later how name opened handed now r = record {
    later = r.later;
    within = λ c was. in_files opened name c (r.within c was);
    left = λ since c le was. elim (r.left since c le was) [
      | inl left ↦ inl left
      | inr is ↦ inr (saved_later how c is)
    ];
    ends = ends_later how name opened now r.ends;
    elsewhere = r.elsewhere;
  }

  among_later : (how : SaveEnd) (name : List ℕ) (opened handed now : Option Disk)
      → Among opened handed now (DiskReturns name base es how) → Among opened handed now (DiskReturns name base (es ++ more) how)
  among_later how name None None None r = tt
  among_later how name None None (Some now) r = absurd r
  among_later how name None (Some handed) None r = absurd r
  among_later how name None (Some handed) (Some now) r = absurd r
  among_later how name (Some opened) None None r = absurd r
  among_later how name (Some opened) None (Some now) r = absurd r
  among_later how name (Some opened) (Some handed) None r = absurd r
  among_later how name (Some opened) (Some handed) (Some now) r = disk_later how name opened handed now r

  pub returns_later : (opening handed now : ShelfState) (how : SaveEnd) → Returns opening handed base es how now
      → Returns opening handed base (es ++ more) how now
  returns_later opening handed now how r = record {
    selected = r.selected;
    loads = r.loads;
    reading = r.reading;
    saving = r.saving;
    untouched = r.untouched;
    contents = among_later how (file_name opening) opening.disk handed.disk now.disk r.contents;
  }
