-- Worked saves.
use Rattle.std.proofs.Common.{arith, lit<, lit≤}
use Rattle.std.specs.Prelude.{◌≡◌, ℕ, false, List, [], ◌∷◌, None, refl}
use Rattle.std.specs.List.Sorted.{IsStrictlyIncreasing}
use Rattle.spec_document.specs.Document.{Document}
use Rattle.spec_document.proofs.Samples.{one}
use Rattle.spec_edit.specs.Edit.{set_visible}
use Rattle.spec_history.specs.Machine.{edit, Reply, changed, saved, save_fault, save_memory}
use Rattle.spec_history.specs.History.{Entry, Kind, asked, starts, ends}
use Rattle.spec_history.specs.Kept.{IsLegal}
use Rattle.spec_saves.specs.Names.{the_old, version, names, files, saved_versions, save_faults, out_version}
use Rattle.spec_saves.specs.Acknowledged.{acknowledged_versions}

abbrev entry : (index : ℕ) → Kind → Reply → Entry
entry index kind reply = record { session = 0; index = index; kind = kind; reply = reply }

-- before any save the file is the old one
no_save : (base : Document) → files base [] ≡ the_old ∷ []
no_save base = refl

-- while a save is out, its version may be there too
out : (base : Document) → files base (entry 0 starts (saved 0) ∷ []) ≡ the_old ∷ version 0 ∷ []
out base = refl

-- and no other name is settled yet
out_names : names (entry 0 starts (saved 0) ∷ []) ≡ the_old ∷ []
out_names = refl

-- a save that is done leaves its version alone
done : (base : Document) → files base (entry 0 starts (saved 0) ∷ entry 0 ends (saved 0) ∷ []) ≡ version 0 ∷ []
done base = refl

-- one that failed leaves both, and once more where it fails again
twice_failed : (base : Document)
    → files base (entry 0 starts (saved 0) ∷ entry 0 ends (save_fault 0) ∷ entry 1 starts (saved 0) ∷ entry 1 ends (save_fault 0)
    ∷ [])
    ≡ the_old ∷ version 0 ∷ version 0 ∷ []
twice_failed base = refl

-- one that found no memory leaves the file as it was
no_memory : (base : Document) → files base (entry 0 starts (saved 0) ∷ entry 0 ends (save_memory 0) ∷ []) ≡ the_old ∷ []
no_memory base = refl

-- a save names the version of its start, whatever is called beside it
beside_calls : names (entry 0 starts (saved 0) ∷ entry 1 (asked (edit None (set_visible 1 false ∷ [])) []) (changed 1 1 2) ∷ entry 0 ends (saved 0) ∷ [])
    ≡ version 0 ∷ []
beside_calls = refl

counted : save_faults (entry 0 starts (saved 0) ∷ entry 0 ends (save_fault 0) ∷ entry 1 starts (saved 0) ∷ entry 1 ends (saved 0)
    ∷ []) ≡ 1
counted = refl

both_left : saved_versions (entry 0 starts (saved 0) ∷ entry 0 ends (save_fault 0) ∷ entry 1 starts (saved 3)
    ∷ entry 1 ends (saved 3) ∷ []) ≡ 0 ∷ 3 ∷ []
both_left = refl

-- one that found no memory, or is out, left none
none_left : saved_versions (entry 0 starts (saved 0) ∷ entry 0 ends (save_memory 0) ∷ entry 1 starts (saved 0) ∷ []) ≡ []
none_left = refl

version_out : (base : Document) → out_version base (entry 0 starts (saved 0) ∷ []) ≡ 0
version_out base = refl

-- ---- acknowledged saves

-- a save, an edit while it is out, and a save after both
abbrev edited_between : List Entry
edited_between =
    entry 0 starts (saved 0)
    ∷ entry 1 (asked (edit None (set_visible 1 false ∷ [])) []) (changed 1 1 2)
    ∷ entry 0 ends (saved 0)
    ∷ entry 2 starts (saved 1)
    ∷ entry 2 ends (saved 1)
    ∷ []

edited_between_is_legal : IsLegal one edited_between
edited_between_is_legal = record {
  calls = (tt, ((record { some = lit≤ tt; few = lit≤ tt; each = (tt, tt) }, tt), (tt, (tt, (tt, tt)))));
  run = ((refl, refl, refl), ((refl, refl), ((refl, refl, refl), ((refl, refl, refl), ((refl, refl, refl), tt)))));
  kept = (tt, (tt, (tt, (tt, (tt, tt)))));
}

-- each is acknowledged with the version of its start
acknowledged_around_edit : acknowledged_versions edited_between ≡ 0 ∷ 1 ∷ []
acknowledged_around_edit = refl

-- two saves of one version
abbrev unchanged_between : List Entry
unchanged_between = entry 0 starts (saved 0) ∷ entry 0 ends (saved 0) ∷ entry 1 starts (saved 0) ∷ entry 1 ends (saved 0) ∷ []

unchanged_between_is_legal : (base : Document) → IsLegal base unchanged_between
unchanged_between_is_legal base = record {
  calls = (tt, (tt, (tt, (tt, tt))));
  run = ((refl, refl, refl), ((refl, refl, refl), ((refl, refl, refl), ((refl, refl, refl), tt))));
  kept = (tt, (tt, (tt, (tt, tt))));
}

acknowledged_twice : acknowledged_versions unchanged_between ≡ 0 ∷ 0 ∷ []
acknowledged_twice = refl

-- so a legal history need not raise them
need_not_rise : IsStrictlyIncreasing (acknowledged_versions unchanged_between) → ⊥
need_not_rise rise = let less = rise 0 (lit< tt) in absurd (omega (arith, less))

-- a save that failed, one that found no memory and one that is out are not acknowledged
not_acknowledged : acknowledged_versions
    (entry 0 starts (saved 0)
    ∷ entry 0 ends (save_fault 0)
    ∷ entry 1 starts (saved 0)
    ∷ entry 1 ends (save_memory 0)
    ∷ entry 2 starts (saved 0)
    ∷ [])
    ≡ []
not_acknowledged = refl
