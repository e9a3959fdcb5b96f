use Rattle.spec_document.specs.Forest.{size}
use Rattle.xl_listing.proofs.NodesMade.{IsUnderWay}
use Rattle.xl_listing.proofs.document_line.+node_values.Given as goal

-- the values so far, and the nodes that are left
abbrev pub invariant-loop-values : goal.invariant-loop-values
invariant-loop-values l = IsUnderWay l.values.items l.rest l.fn.nodes

abbrev pub decreases-loop-values : goal.decreases-loop-values
decreases-loop-values l = size l.rest

abbrev pub decreases-node_values : goal.decreases-node_values
decreases-node_values l = size l.nodes
