-- The shelf after a save is one that a core takes back.
use Rattle.std.proofs.Common.{◌≡◌, ℕ, List, [], ◌∷◌, ◌++◌, Some, None, ap, sym, ◌∙◌, subst}
use Rattle.std.specs.Prelude.{Option, unwrap_or}
use Rattle.spec_document.specs.Document.{Document}
use Rattle.spec_layout.specs.Layout.{Written}
use Rattle.spec_history.specs.Machine.{saved}
use Rattle.spec_history.specs.History.{Entry, starts, latest_of, document_of}
use Rattle.spec_history.specs.Kept.{IsLegal}
use Rattle.spec_world.specs.declared.SaveEnd.{SaveEnd}
use Rattle.spec_world.specs.declared.SaveEnd.TheVariants.{Done, Fault, Memory}
use Rattle.xl_ports.specs.Disk.{Disk, Between}
use Rattle.xl_ports.specs.State.{ShelfState}
use Rattle.xl_save.specs.Save.{SavesOnly, HasSaved}
use Rattle.spec_saves.specs.Shelf.{file_name, ShelfIsRight, DiskIsRight}
use Rattle.spec_saves.specs.Returns.{Returns, DiskReturns, Among}
use Rattle.xl_snapshot.specs.Saving.{IsSavedOn, Puts}
use Rattle.xl_snapshot.proofs.Returning.{IsStarted, start_is, done_returns, failed_returns, untouched_returns}

-- ---- after a save

module _ {base : Document} {es : List Entry} {e : Entry} {v : ℕ} (legal : IsLegal base es) (start : IsStarted base es e v)
    (name : List ℕ) where
  among_done : (bytes : List ℕ) → Written bytes (document_of base es v) → (opened handed now : Option Disk)
      → Between opened handed (DiskIsRight name base es)
      → Between handed now (λ b a. SavesOnly name bytes b a × HasSaved name bytes a)
      → Among opened handed now (DiskReturns name base (es ++ e ∷ []) Done)
  among_done bytes wrote None None None right only = tt
  among_done bytes wrote None None (Some now) right only = absurd only
  among_done bytes wrote None (Some handed) now right only = absurd right
  among_done bytes wrote (Some opened) None now right only = absurd right
  among_done bytes wrote (Some opened) (Some handed) None right only = absurd only
  among_done bytes wrote (Some opened) (Some handed) (Some now) right only =
      done_returns legal start opened name bytes wrote right only.0 only.1

  among_failed : (bytes : List ℕ) → Written bytes (document_of base es v) → (opened handed now : Option Disk)
      → Between opened handed (DiskIsRight name base es)
      → Between handed now (SavesOnly name bytes) → Among opened handed now (DiskReturns name base (es ++ e ∷ []) Fault)
  among_failed bytes wrote None None None right only = tt
  among_failed bytes wrote None None (Some now) right only = absurd only
  among_failed bytes wrote None (Some handed) now right only = absurd right
  among_failed bytes wrote (Some opened) None now right only = absurd right
  among_failed bytes wrote (Some opened) (Some handed) None right only = absurd only
  among_failed bytes wrote (Some opened) (Some handed) (Some now) right only =
      failed_returns legal start opened name bytes wrote right only

  among_untouched : (opened handed : Option Disk) → Between opened handed (DiskIsRight name base es)
      → Among opened handed handed (DiskReturns name base (es ++ e ∷ []) Memory)
  among_untouched None None right = tt
  among_untouched None (Some handed) right = absurd right
  among_untouched (Some opened) None right = absurd right
  among_untouched (Some opened) (Some handed) right = untouched_returns legal start opened name right

  among : (how : SaveEnd) (opened handed now : Option Disk) → Between opened handed (DiskIsRight name base es)
      → Puts how (document_of base es v) name handed now
      → Among opened handed now (DiskReturns name base (es ++ e ∷ []) how)
  among Done opened handed now right puts = among_done puts.0 puts.1 opened handed now right puts.2
  among Fault opened handed now right puts = among_failed puts.0 puts.1 opened handed now right puts.2
  among Memory opened handed now right puts =
      subst (λ (d : Option Disk). Among opened handed d (DiskReturns name base (es ++ e ∷ []) Memory)) (sym puts)
      (among_untouched opened handed right)

-- the shelf that was handed out comes back from the save of the version that stands
pub comes_back : (opening handed now : ShelfState) (base : Document) (es : List Entry) (session index : ℕ) (d : Document) (how : SaveEnd)
    → IsLegal base es
    → ShelfIsRight opening base es handed → d ≡ document_of base es (latest_of es) → IsSavedOn handed d how now
    → Returns opening handed base (es
    ++ record { session = session; index = index; kind = starts; reply = saved (latest_of es) } ∷ []) how now
comes_back opening handed now base es session index d how legal right is saves =
    let name : file_name handed ≡ file_name opening = ap (λ (o : Option (List ℕ)). unwrap_or o []) right.selected in
    let puts : Puts how d (file_name opening) handed.disk now.disk =
    subst (λ (n : List ℕ). Puts how d n handed.disk now.disk) name saves.contents in
    record {
      selected = saves.selected ∙ right.selected;
      loads = saves.loads;
      reading = saves.reading;
      saving = saves.saving;
      untouched = saves.untouched;
      contents = among legal (start_is base es session index legal)
          (file_name opening) how opening.disk handed.disk now.disk right.contents
          (subst (λ (x : Document). Puts how x (file_name opening) handed.disk now.disk) is puts);
    }
