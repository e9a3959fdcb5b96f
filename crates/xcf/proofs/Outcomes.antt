-- What comes of a filter.
use Rattle.std.proofs.Common.{◌≡◌, ℕ, List, true≢false, sym}
use Rattle.std.specs.Prelude.{Ok}
use Rattle.spec_document.specs.Limits.{AreBytes}
use Rattle.spec_edit.specs.Apply.{At, apply}
use Rattle.spec_edit.specs.Edit as edits
use Rattle.spec_edit.specs.Limited.{IsAt}
use Rattle.spec_edit.proofs.EditsLimited.{apply_goes}
use Rattle.spec_document.specs.declared.Rect.{Rect}

-- a filter that is accepted leaves a document within its limits
pub filter_leaves : (old new : At) (id : ℕ) (rect : Rect) (table : List ℕ) → IsAt old → AreBytes table
    → apply old (edits.filter id rect 0) table ≡ Ok new → IsAt new
filter_leaves old new id rect table is bytes applied =
    let goes = apply_goes old new (edits.filter id rect 0) table is tt bytes (λ makes. absurd (true≢false (sym makes))) applied in
    goes.at
