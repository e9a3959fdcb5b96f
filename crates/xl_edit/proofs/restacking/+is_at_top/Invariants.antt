use Rattle.spec_document.specs.Forest.{size}
use Rattle.xl_edit.proofs.restacking.+is_at_top.Given as goal

abbrev pub decreases-is_at_top : goal.decreases-is_at_top
decreases-is_at_top l = size l.nodes
