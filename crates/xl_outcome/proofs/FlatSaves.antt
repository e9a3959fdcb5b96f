-- What a run comes to that makes the image of a file flat.
use Rattle.std.proofs.Common.{◌≡◌, inr, ℕ, List, Some, None, ap, refl, ◌∙◌}
use Rattle.std.specs.Prelude.{Option, IfSome, Result, Ok, Err}
use Rattle.spec_command.specs.Arguments.{flatten}
use Rattle.spec_document.specs.Document.{Document}
use Rattle.spec_document.specs.Ids.{next_id}
use Rattle.spec_document.specs.Limits.{IsDocument}
use Rattle.spec_flat.specs.Flat.{flat_refusal}
use Rattle.spec_flat.specs.Flattened.{BecomesFlat}
use Rattle.spec_world.specs.declared.SaveEnd.TheVariants.{Done, Fault}
use Rattle.xl_layout.proofs.Short.{read}
use Rattle.xl_ports.specs.Disk.{read_at, Disk, Between}
use Rattle.xl_ports.specs.Shelf.{Content}
use Rattle.xl_ports.specs.State.{ShelfState}
use Rattle.xl_outcome.specs.Files.{HoldsDocument}
use Rattle.xl_outcome.specs.Flattening.{made_flat, flattened_line, HasFlat, IsFlatSave, IsFlattened}
use Rattle.xl_outcome.specs.Flattening.{SavesAndTells}
use Rattle.xl_outcome.specs.Outcome.{ComesTo, Given, IsUntouched, opened, ShelfCauseOf}
use Rattle.xl_outcome.specs.Parts.{StopsFlatten}
use Rattle.xl_outcome.specs.declared.stopped.Stopped.{Stopped}
use Rattle.xl_outcome.specs.declared.stopped.Stopped.TheVariants.{SourceFault, BadHead, BadLine, ShelfFault, Refused}
use Rattle.xl_outcome.specs.declared.stopped.Stopped.TheVariants.{NotFlattened, SaveFault, Rejected, SinkFault, Memory}
use Rattle.xl_outcome.proofs.FirstSaves.{saved_first, failed_first}
use Rattle.xl_save.specs.Save.{SavesOnly, HasSaved}
use Rattle.xl_snapshot.specs.Saving.{IsSavedOn}

-- what was known when the file was read, of a document that can be made flat
pub record IsFlatRead (before mid : ShelfState) (name : List ℕ) (d : Document) : Type 0 where
  pub holds : IfSome (read_at before.disk name) (λ c. HoldsDocument c d)
  pub within : IsDocument d
  pub untouched : IsUntouched before mid
  pub named : mid.selected ≡ Some name
  pub reading : mid.reading ≡ before.reading
  pub allowed : flat_refusal d ≡ None
  pub becomes : BecomesFlat d (next_id d)

-- a read gives the file that was saved
read_flat : (name bytes : List ℕ) (d : Document) (before after : Option Disk)
    → Between before after (λ b a. SavesOnly name bytes b a × HasSaved name bytes a)
    → ((now : Disk) → HasSaved name bytes now → HasFlat name d now) → IfSome after (HasFlat name d)
read_flat name bytes d None None saved gives = tt
read_flat name bytes d None (Some after) saved gives = absurd saved
read_flat name bytes d (Some before) None saved gives = tt
read_flat name bytes d (Some before) (Some after) saved gives = gives after saved.1

module _ {before mid : ShelfState} {name : List ℕ} {d : Document} (known_then : IsFlatRead before mid name d) (after : ShelfState) where
  done_save : IsSavedOn mid (made_flat d) Done after
      → IsFlatSave (read_at before.disk name) (opened before after name) after Done
  done_save saved = record {
    document = d;
    held = known_then.holds;
    within = known_then.within;
    allowed = known_then.allowed;
    becomes = known_then.becomes;
    saved = saved_first (made_flat d) (opened before after name) mid after known_then.named refl known_then.untouched.quiet
        known_then.reading known_then.untouched.saving saved;
  }

  failed_save : IsSavedOn mid (made_flat d) Fault after
      → IsFlatSave (read_at before.disk name) (opened before after name) after Fault
  failed_save saved = record {
    document = d;
    held = known_then.holds;
    within = known_then.within;
    allowed = known_then.allowed;
    becomes = known_then.becomes;
    saved = failed_first (made_flat d) (opened before after name) mid after known_then.named refl known_then.untouched.quiet
        known_then.reading known_then.untouched.saving saved;
  }

  flattened : IsSavedOn mid (made_flat d) Done after
      → IsFlattened (read_at before.disk name) (opened before after name) after flattened_line
  unfolding done_save
  flattened saved =
      let flat = done_save saved in
      let puts = flat.saved.contents in
      record {
        flat = flat;
        file = read_flat name puts.0 d before.disk after.disk puts.2 (λ now has. record {
          bytes = puts.0;
          read = has.read;
          written = puts.1;
          decoded = read puts.0 (made_flat d) puts.1 known_then.becomes.limits.document;
        });
        text = refl;
      }

  -- what is written, and the shelf
  pub flat_comes : {K : Type 0} (held : K → Option (List ℕ)) (faults : K → ℕ) (given : Given) (old new : K)
      (result : Result (Unit {0}) Stopped) → SavesAndTells held faults (made_flat d) mid after old new result
      → ComesTo held faults given before after (flatten name) old new result
  flat_comes held faults given old new (Ok x) saves = (flattened_line, (flattened saves.0, refl), saves.1)
  flat_comes held faults given old new (Err SinkFault) saves = (flattened_line, (flattened saves.0, tt), saves.1)
  flat_comes held faults given old new (Err ShelfFault) saves =
      ((ap held saves.1, ap faults saves.1), inr (failed_save saves.0))
  flat_comes held faults given old new (Err SourceFault) saves = absurd saves
  flat_comes held faults given old new (Err BadHead) saves = absurd saves
  flat_comes held faults given old new (Err (BadLine bad)) saves = absurd saves
  flat_comes held faults given old new (Err (Refused why)) saves = absurd saves
  flat_comes held faults given old new (Err (NotFlattened why)) saves = absurd saves
  flat_comes held faults given old new (Err SaveFault) saves = absurd saves
  flat_comes held faults given old new (Err (Rejected why)) saves = absurd saves
  flat_comes held faults given old new (Err Memory) saves = absurd saves

  pub flat_cause : {K : Type 0} (held : K → Option (List ℕ)) (faults : K → ℕ) (old new : K)
      (result : Result (Unit {0}) Stopped) → SavesAndTells held faults (made_flat d) mid after old new result
      → ShelfCauseOf before after (flatten name) result
  flat_cause held faults old new (Ok x) saves = saves.0.reading ∙ known_then.reading
  flat_cause held faults old new (Err SinkFault) saves = saves.0.reading ∙ known_then.reading
  flat_cause held faults old new (Err ShelfFault) saves = inr (failed_save saves.0).saved.saving
  flat_cause held faults old new (Err SourceFault) saves = absurd saves
  flat_cause held faults old new (Err BadHead) saves = absurd saves
  flat_cause held faults old new (Err (BadLine bad)) saves = absurd saves
  flat_cause held faults old new (Err (Refused why)) saves = absurd saves
  flat_cause held faults old new (Err (NotFlattened why)) saves = absurd saves
  flat_cause held faults old new (Err SaveFault) saves = absurd saves
  flat_cause held faults old new (Err (Rejected why)) saves = absurd saves
  flat_cause held faults old new (Err Memory) saves = absurd saves

-- ---- why it stops

pub flat_stops : {K : Type 0} (held : K → Option (List ℕ)) (faults : K → ℕ) (d : Document) (opening now : ShelfState) (old new : K)
    (content : Option Content) (result : Result (Unit {0}) Stopped) → SavesAndTells held faults d opening now old new result
    → StopsFlatten content result
flat_stops held faults d opening now old new content (Ok x) saves = tt
flat_stops held faults d opening now old new content (Err SinkFault) saves = tt
flat_stops held faults d opening now old new content (Err ShelfFault) saves = tt
flat_stops held faults d opening now old new content (Err SourceFault) saves = absurd saves
flat_stops held faults d opening now old new content (Err BadHead) saves = absurd saves
flat_stops held faults d opening now old new content (Err (BadLine bad)) saves = absurd saves
flat_stops held faults d opening now old new content (Err (Refused why)) saves = absurd saves
flat_stops held faults d opening now old new content (Err (NotFlattened why)) saves = absurd saves
flat_stops held faults d opening now old new content (Err SaveFault) saves = absurd saves
flat_stops held faults d opening now old new content (Err (Rejected why)) saves = absurd saves
flat_stops held faults d opening now old new content (Err Memory) saves = absurd saves
