-- A document that is run-length coded, its smallest file and its text.
use Rattle.std.proofs.Common.{◌≡◌, ℕ, Bool, List, ◌++◌, length, ◌∙◌, subst}
use Rattle.spec_document.specs.Document.{Document}
use Rattle.spec_shortest.specs.Files.{coded, IsSmallestFile}
use Rattle.spec_shortest.specs.Lines.{IsPackText, packed_line}
use Rattle.xl_pack.specs.Spelled.{IsSpelled}

pub smallest_file : (d at : Document) (with_plans : Bool) (file lines : List ℕ) (planes : ℕ) → at ≡ coded d
    → IsSpelled at with_plans file lines planes → IsSmallestFile file d
smallest_file d at with_plans file lines planes is spelled =
    let s = subst (λ d. IsSpelled d with_plans file lines planes) is spelled in
    record { written = s.written; least = s.least }

pub pack_text : (d at : Document) (with_plans : Bool) (file lines out : List ℕ) (before after planes : ℕ) → at ≡ coded d
    → IsSpelled at with_plans file lines planes → after ≡ length file → out ≡ lines ++ packed_line before after planes
    → IsPackText d with_plans before (length file) out
pack_text d at with_plans file lines out before after planes is spelled size text =
    let s = subst (λ d. IsSpelled d with_plans file lines planes) is spelled in
    record {
      lines = lines;
      are_lines = s.are_lines;
      text = text ∙ (λ i. lines ++ packed_line before (size i) (s.count i));
    }
