-- The save of a document as it is made, behind the selection of its name.
use Rattle.std.proofs.Common.{◌≡◌, true, false, inl, inr, ⊎_elim, ℕ, List, [], ap, ◌∙◌, arith, subst}
use Rattle.std.specs.Prelude.{Option, unwrap_or, Result, Ok, Err, OnOk, OnErr, is_err}
use Rattle.spec_document.specs.Document.{Document}
use Rattle.spec_world.specs.declared.SaveEnd.TheVariants.{Done, Fault}
use Rattle.spec_saves.specs.Shelf.{file_name}
use Rattle.xl_ports.specs.Faults.{Rose}
use Rattle.xl_ports.specs.Disk.{Disk, Between, IsQuiet}
use Rattle.xl_ports.specs.State.{ShelfState}
use Rattle.xl_ports.proofs.Moments.{stays_then, stays_back, one_then}
use Rattle.xl_save.specs.Save.{SavesOnly, HasSaved}
use Rattle.xl_save.proofs.AfterCalls.{saves}
use Rattle.xl_snapshot.specs.Saving.{IsSavedOn, Puts}
use Rattle.xl_snapshot.proofs.Putting.{done_not_memory, fault_not_memory}
use Rattle.spec_run.proofs.Earlier.{quiet_left}

-- ---- a save behind a quiet call

pub saves_earlier : (name bytes : List ℕ) (a b c : Disk) → IsQuiet a b → SavesOnly name bytes b c → SavesOnly name bytes a c
saves_earlier name bytes a b c quiet save =
    let first = quiet.time.later in
    let then = save.later in
    saves name bytes a c (omega arith)
    (λ since x le left.
    ⊎_elim (λ was. inl (quiet_left a b name since x quiet le was)) (λ new. inr new)
    (save.each since x (omega (arith, le, first)) left))
    (λ other since x le left. save.keeps other since x (omega (arith, le, first)) (quiet.time.keeps other since x le left))
    (λ x may. ⊎_elim (λ was. inl (stays_back a b name (quiet.stays name) x was)) (λ new. inr new) (save.now x may))
    (⊎_elim (λ same. inl (same ∙ (quiet.stays name).read)) (λ new. inr new) save.read)
    (λ other not. stays_then other (quiet.stays other) (save.elsewhere other not))
    (λ other not since x le left.
    quiet_left a b other since x quiet le (save.elsewhere_each other not since x (omega (arith, le, first)) left))

done_earlier : (name bytes : List ℕ) (a b c : Disk) → IsQuiet a b → SavesOnly name bytes b c × HasSaved name bytes c
    → SavesOnly name bytes a c × HasSaved name bytes c
done_earlier name bytes a b c quiet save = (saves_earlier name bytes a b c quiet save.0, save.1)

module _ (d : Document) (opening mid after : ShelfState) where
  pub saved_first : mid.selected ≡ opening.selected → after.loads ≡ opening.loads → Between opening.disk mid.disk IsQuiet → mid.reading ≡ opening.reading
      → mid.saving ≡ opening.saving
      → IsSavedOn mid d Done after → IsSavedOn opening d Done after
  saved_first selected loads quiet reading saving save =
      let name : List ℕ = file_name opening in
      let same : file_name mid ≡ name = ap (λ (o : Option (List ℕ)). unwrap_or o []) selected in
      let puts : Puts Done d name mid.disk after.disk =
      subst (λ (n : List ℕ). Puts Done d n mid.disk after.disk) same save.contents in
      record {
        selected = save.selected ∙ selected;
        loads = loads;
        reading = save.reading ∙ reading;
        saving = save.saving ∙ saving;
        untouched = done_not_memory;
        closed = save.closed;
        contents = (
          puts.0,
          puts.1,
          one_then IsQuiet (λ b a. SavesOnly name puts.0 b a × HasSaved name puts.0 a)
              (λ b a. SavesOnly name puts.0 b a × HasSaved name puts.0 a) (done_earlier name puts.0)
              opening.disk mid.disk after.disk quiet puts.2,
        );
      }

  pub failed_first : mid.selected ≡ opening.selected → after.loads ≡ opening.loads → Between opening.disk mid.disk IsQuiet → mid.reading ≡ opening.reading
      → mid.saving ≡ opening.saving
      → IsSavedOn mid d Fault after → IsSavedOn opening d Fault after
  failed_first selected loads quiet reading saving save =
      let name : List ℕ = file_name opening in
      let same : file_name mid ≡ name = ap (λ (o : Option (List ℕ)). unwrap_or o []) selected in
      let puts : Puts Fault d name mid.disk after.disk =
      subst (λ (n : List ℕ). Puts Fault d n mid.disk after.disk) same save.contents in
      record {
        selected = save.selected ∙ selected;
        loads = loads;
        reading = save.reading ∙ reading;
        saving = subst (λ (n : ℕ). Rose n after.saving) saving save.saving;
        untouched = fault_not_memory;
        closed = save.closed;
        contents = (
          puts.0,
          puts.1,
          one_then IsQuiet (SavesOnly name puts.0) (SavesOnly name puts.0) (saves_earlier name puts.0) opening.disk mid.disk
              after.disk quiet puts.2,
        );
      }

pub ok_any : {E P : Type 0} (r : Result (Unit {0}) E) → P → OnOk r P
ok_any (Ok x) p = p
ok_any (Err e) p = tt

pub err_any : {E P : Type 0} (r : Result (Unit {0}) E) → P → OnErr r P
err_any (Ok x) p = tt
err_any (Err e) p = p

pub ok_at : {E P : Type 0} (r : Result (Unit {0}) E) → is_err r ≡ false → OnOk r P → P
ok_at (Ok x) failed p = p
ok_at (Err e) failed p = cc

pub err_at : {E P : Type 0} (r : Result (Unit {0}) E) → is_err r ≡ true → OnErr r P → P
err_at (Ok x) failed p = cc
err_at (Err e) failed p = p
