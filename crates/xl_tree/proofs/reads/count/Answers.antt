use Rattle.std.proofs.Common.{ap, arith}
use Rattle.spec_document.specs.Forest.{size, count}
use Rattle.xl_tree.proofs.reads.count.Goals as goal
use Rattle.xl_tree.proofs.reads.count.Goals.{in-Leaf, in-Group}

pub overflow_add-nodes : goal.overflow_add-nodes
overflow_add-nodes g c =
    elim c.match-split.branch [
      | in-Leaf w ↦ omega (arith, w.in-Leaf.ensures.falls)
      | in-Group w ↦ omega (arith, w.in-Group.ensures.falls)
    ]

pub loop-under-preserved : goal.loop-under-preserved
loop-under-preserved g c =
    elim c.match-split.branch [
      | in-Leaf w ↦ (
        omega (arith, ap count w.in-Leaf.ensures.parts, ap count w.rest-is),
        omega (arith, w.in-Leaf.ensures.falls, ap size w.rest-is),
      )
      | in-Group w ↦ (
        omega (arith, ap count w.in-Group.ensures.parts, ap count w.rest-is),
        omega (arith, w.in-Group.ensures.falls, ap size w.rest-is),
      )
    ]
