-- What a run comes to that packs a file.
use Rattle.std.proofs.Common.{◌≡◌, inr, ℕ, Bool, true, false, List, length, Some, sym, ◌∙◌, subst}
use Rattle.std.specs.Prelude.{Option, IfSome, Result, Ok, Err, is_err}
use Rattle.spec_command.specs.Arguments.{pack}
use Rattle.spec_document.specs.Document.{Document}
use Rattle.spec_document.specs.Limits.{IsDocument}
use Rattle.spec_shortest.specs.Lines.{IsPackText}
use Rattle.xl_pack.specs.Saving.{HasSmallest, MayHaveSmallest}
use Rattle.xl_ports.proofs.Moments.{one_then}
use Rattle.xl_ports.specs.Disk.{read_at, Disk, Between, IsQuiet}
use Rattle.xl_ports.specs.Faults.{HasCause, Rose}
use Rattle.xl_ports.specs.State.{ShelfState}
use Rattle.xl_outcome.specs.Files.{HoldsDocument, HasLength}
use Rattle.xl_outcome.specs.Outcome.{FailsAtShelf, FaultsRose, IsUntouched, opened}
use Rattle.xl_outcome.specs.Packing.{IsPacked}
use Rattle.xl_outcome.proofs.FirstSaves.{saves_earlier}
use Rattle.xl_save.specs.Save.{SavesOnly}

-- ---- a save behind a quiet call

has_earlier : (name : List ℕ) (d : Document) (size : ℕ) (a b c : Option Disk) → Between a b IsQuiet → HasSmallest name d size b c
    → HasSmallest name d size a c
has_earlier name d size a b c quiet save = record {
  file = save.file;
  smallest = save.smallest;
  size_is = save.size_is;
  moments = one_then IsQuiet (SavesOnly name save.file) (SavesOnly name save.file) (saves_earlier name save.file) a b c quiet
      save.moments;
  saved = save.saved;
}

may_earlier : (name : List ℕ) (d : Document) (a b c : Option Disk) → Between a b IsQuiet → MayHaveSmallest name d b c
    → MayHaveSmallest name d a c
may_earlier name d a b c quiet save = record {
  file = save.file;
  smallest = save.smallest;
  moments = one_then IsQuiet (SavesOnly name save.file) (SavesOnly name save.file) (saves_earlier name save.file) a b c quiet
      save.moments;
}

-- ---- what was known when the file was read

pub record IsPackRead (before mid : ShelfState) (name : List ℕ) (d : Document) (size : ℕ) : Type 0 where
  pub holds : IfSome (read_at before.disk name) (λ c. HoldsDocument c d)
  pub size_is : IfSome (read_at before.disk name) (λ c. HasLength c size)
  pub within : IsDocument d
  pub untouched : IsUntouched before mid
  pub named : mid.selected ≡ Some name
  pub reading : mid.reading ≡ before.reading

module _ {before mid : ShelfState} {name : List ℕ} {d : Document} {size : ℕ} (read : IsPackRead before mid name d size)
    (after : ShelfState) where
  -- the save is done
  pub is_packed : (with_plans : Bool) (file out : List ℕ)
      → IfSome mid.selected (λ n. HasSmallest n d (length file) mid.disk after.disk)
      → after.reading ≡ mid.reading → after.saving ≡ mid.saving
      → IsPackText d with_plans size (length file) out
      → IsPacked (read_at before.disk name) (opened before after name) after with_plans out
  is_packed with_plans file out saved reading saving text =
      let named : HasSmallest name d (length file) mid.disk after.disk =
      subst (λ (o : Option (List ℕ)). IfSome o (λ n. HasSmallest n d (length file) mid.disk after.disk)) read.named
      saved in
      record {
        document = d;
        held = read.holds;
        within = read.within;
        before = size;
        length_before = read.size_is;
        after = length file;
        saved = has_earlier name d (length file) before.disk mid.disk after.disk read.untouched.quiet named;
        reading = reading ∙ read.reading;
        saving = saving ∙ read.untouched.saving;
        text = text;
      }

  -- a fault stopped it
  pub may_be_packed : (with_plans : Bool) → IfSome mid.selected (λ n. MayHaveSmallest n d mid.disk after.disk)
      → after.reading ≡ mid.reading → Rose mid.saving after.saving
      → FailsAtShelf before after (pack name with_plans)
  may_be_packed with_plans saved reading rose =
      let named : MayHaveSmallest name d mid.disk after.disk =
      subst (λ (o : Option (List ℕ)). IfSome o (λ n. MayHaveSmallest n d mid.disk after.disk)) read.named saved in
      inr (record {
        document = d;
        held = read.holds;
        within = read.within;
        reading = reading ∙ read.reading;
        saving = subst (λ (n : ℕ). Rose n after.saving) read.untouched.saving rose;
        saved = may_earlier name d before.disk mid.disk after.disk read.untouched.quiet named;
      })

  pub save_rose : (with_plans : Bool) → Rose mid.saving after.saving
      → FaultsRose before after (pack name with_plans)
  save_rose with_plans rose = inr (subst (λ (n : ℕ). Rose n after.saving) read.untouched.saving rose)

-- the text that is written
pub text_moved : (d : Document) (with_plans : Bool) (before : ℕ) (file text out : List ℕ) → out ≡ text
    → IsPackText d with_plans before (length file) text → IsPackText d with_plans before (length file) out
text_moved d with_plans before file text out told is =
    subst (λ (xs : List ℕ). IsPackText d with_plans before (length file) xs) (sym told) is

module _ {A E : Type 0} (old new : ℕ) where
  pub rose_at : (r : Result A E) → is_err r ≡ true → HasCause old new r → Rose old new
  rose_at (Ok x) failed cause = cc
  rose_at (Err e) failed cause = cause

  pub stays_at : (r : Result A E) → is_err r ≡ false → HasCause old new r → new ≡ old
  stays_at (Ok x) failed cause = cause
  stays_at (Err e) failed cause = cc
