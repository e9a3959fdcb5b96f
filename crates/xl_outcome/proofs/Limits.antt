-- What is read of a file up to the limit tells what the whole file holds.
use Rattle.std.proofs.Common.{◌≡◌, inl, inr, ℕ, ◌-◌, ◌<◌, ◌≤◌, List, length, take, false, Option, Some, None, Err}
use Rattle.std.proofs.Common.{refl, sym, ◌∙◌, ap, subst, arith}
use Rattle.std.specs.Prelude.{IfSome, nat_lt}
use Rattle.std.proofs.lemmas.Bool.{cases_lt}
use Rattle.std.proofs.lemmas.Bool.Decides.{nat_tests}
use Rattle.std.proofs.lemmas.List.{take_all, length-take}
use Rattle.spec_document.specs.Document.{Document}
use Rattle.spec_fields.specs.declared.ReadRefused.{ReadRefused}
use Rattle.spec_fields.specs.declared.Kind.TheVariants.{TooLarge}
use Rattle.spec_fields.specs.Reading.{fault}
use Rattle.spec_file.specs.declared.TheConstants.{FILE_LIMIT}
use Rattle.spec_file.specs.Header.{header_of}
use Rattle.spec_file.specs.Holds.{Holds}
use Rattle.spec_file.specs.Reading.{reading, beginning, fault_in}
use Rattle.xl_ports.specs.Shelf.{Content, absent, file, GivesFront}
use Rattle.xl_outcome.specs.Files.{HoldsDocument, HasFault, HasLength}

-- a file as long as the limit is refused, whatever is in it
too_long : (bytes : List ℕ) → FILE_LIMIT ≤ length bytes → reading bytes ≡ Err (fault TooLarge (FILE_LIMIT - 1))
unfolding reading beginning header_of
too_long bytes long =
    let test : nat_lt (length bytes) FILE_LIMIT ≡ false = grind (arith, nat_tests) in
    rw test refl

-- the front of a file reads as the file does
front_reads : (all bytes : List ℕ) → bytes ≡ take FILE_LIMIT all → reading bytes ≡ reading all
front_reads all bytes front = elim (cases_lt (length all) FILE_LIMIT) [
  | inl short ↦ ap reading (front ∙ take_all FILE_LIMIT all (omega arith))
  | inr long ↦
      let full : FILE_LIMIT ≤ length bytes = omega (arith, ap length front, length-take FILE_LIMIT all) in
      too_long bytes full ∙ sym (too_long all long)
]

-- the document that the front of a file holds
pub front_holds : (content : Option Content) (bytes : List ℕ) (d : Document) → IfSome content (λ c. GivesFront c FILE_LIMIT bytes)
    → Holds bytes d → IfSome content (λ c. HoldsDocument c d)
front_holds None bytes d front holds = tt
front_holds (Some absent) bytes d front holds = absurd front
front_holds (Some (file all)) bytes d front holds =
    let short : length bytes < FILE_LIMIT = holds.short in
    let whole : bytes ≡ all = front ∙ take_all FILE_LIMIT all (omega (arith, ap length front, length-take FILE_LIMIT all)) in
    subst (λ (l : List ℕ). Holds l d) whole holds

-- and how many bytes the file has
pub front_length : (content : Option Content) (bytes : List ℕ) (n : ℕ) (d : Document)
    → IfSome content (λ c. GivesFront c FILE_LIMIT bytes) → Holds bytes d → n ≡ length bytes → IfSome content (λ c. HasLength c n)
front_length None bytes n d front holds size = tt
front_length (Some absent) bytes n d front holds size = absurd front
front_length (Some (file all)) bytes n d front holds size =
    let short : length bytes < FILE_LIMIT = holds.short in
    size ∙ ap length (front ∙ take_all FILE_LIMIT all (omega (arith, ap length front, length-take FILE_LIMIT all)))

-- the first fault of the front of a file
pub front_faults : (content : Option Content) (bytes : List ℕ) (refused : ReadRefused)
    → IfSome content (λ c. GivesFront c FILE_LIMIT bytes) → reading bytes ≡ Err refused → IfSome content (λ c. HasFault c refused)
front_faults None bytes refused front fails = tt
front_faults (Some absent) bytes refused front fails = absurd front
front_faults (Some (file all)) bytes refused front fails = ap fault_in (sym (front_reads all bytes front) ∙ fails)
