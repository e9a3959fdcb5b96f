use Rattle.spec_document.specs.Forest.{size}
use Rattle.xl_doc.proofs.versions.+has_group.Given as goal

abbrev pub decreases-has_group : goal.decreases-has_group
decreases-has_group l = size l.nodes
