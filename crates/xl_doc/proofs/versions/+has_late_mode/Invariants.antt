use Rattle.spec_document.specs.Forest.{size}
use Rattle.xl_doc.proofs.versions.+has_late_mode.Given as goal

abbrev pub decreases-has_late_mode : goal.decreases-has_late_mode
decreases-has_late_mode l = size l.nodes
