use Rattle.std.proofs.Common.{sym, ◌∙◌, ap, arith}
use Rattle.spec_document.specs.Forest.{size, count}
use Rattle.xl_tree.proofs.Paths.{from_place_under_leaf, from_place_under_group, size-from_place}
use Rattle.xl_tree.proofs.slots.nodes_before.Goals as goal
use Rattle.xl_tree.proofs.slots.nodes_before.Goals.{in-Leaf, in-Group}

pub loop-passed-preserved : goal.loop-passed-preserved
loop-passed-preserved g c =
    elim c.match-split.branch [
      | in-Leaf w ↦ (
        from_place_under_leaf c.loop-passed.passed c.args.stack _ _ _ (c.loop-passed.invariant.0 ∙ sym w.in-Leaf.ensures.parts)
            ∙ sym w.rest-is,
        omega (arith, ap count w.in-Leaf.ensures.parts, ap count w.rest-is),
        c.loop-passed.invariant.2,
      )
      | in-Group w ↦ (
        from_place_under_group c.loop-passed.passed c.args.stack _ _ _ _ (c.loop-passed.invariant.0 ∙ sym w.in-Group.ensures.parts)
            ∙ sym w.rest-is,
        omega (arith, ap count w.in-Group.ensures.parts, ap count w.rest-is),
        c.loop-passed.invariant.2,
      )
    ]

pub overflow_sub-result : goal.overflow_sub-result
overflow_sub-result g c =
    omega (arith, size-from_place c.loop-passed.passed c.args.stack, ap size c.loop-passed.invariant.0)
