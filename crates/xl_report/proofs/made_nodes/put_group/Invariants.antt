use Rattle.std.proofs.Common.{◌≡◌, ◌+◌, map, take}
use Rattle.xl_report.specs.MadeNodes.{group_node, layer_node}
use Rattle.xl_report.proofs.Grown.{grown}
use Rattle.xl_report.proofs.made_nodes.put_group.Given as goal

-- the layers so far
abbrev pub invariant-loop-look : goal.invariant-loop-look
invariant-loop-look l = record {
  id : l.id ≡ l.fn.first + l.look-index;
  tree : l.tree ≡ grown l.fn.tree l.fn.first group_node (map layer_node (take l.look-index l.looks));
}
