-- A verdict that is found is exact.
use Rattle.std.proofs.Common.{ℕ, List, length, map}
use Rattle.std.specs.Prelude.{Option}
use Rattle.spec_audit.specs.Limited.{AreNumbers}
use Rattle.spec_audit.specs.Verdicts.{IsExact, IsVerdict}
use Rattle.spec_audit.specs.declared.Verdict.{Verdict}
use Rattle.spec_audit.proofs.Exact.{exact}
use Rattle.spec_document.specs.Document.{Document}
use Rattle.spec_document.specs.Limits.{IsDocument}
use Rattle.spec_filters.specs.declared.FilterState.{FilterState}
use Rattle.spec_script.specs.Fits.{FitsFilters}
use Rattle.spec_script.specs.Script.{Line}
use Rattle.xl_doc.specs.Numbered.{AreNumbered}
use Rattle.xl_desk.proofs.Opened.{small_ids}
use Rattle.xl_audit.specs.Auditing.{start_of}

pub exactly : (d : Document) (lists : List (List Line)) (chests : List (List (Option FilterState))) (out : List ℕ) (v : Verdict)
    → IsDocument d → AreNumbered d.nodes → FitsFilters (map length chests) lists → AreNumbers lists
    → IsVerdict (start_of d lists chests) out v → IsExact (start_of d lists chests) out v
exactly d lists chests out v within numbered fits numbers found =
    exact (start_of d lists chests) (map length chests) out v within (small_ids d numbered) fits numbers found
