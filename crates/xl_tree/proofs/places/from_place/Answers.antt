use Rattle.std.proofs.Common.{sym, ◌∙◌, arith}
use Rattle.xl_tree.proofs.Paths.{from_place_past, from_place_under_leaf, from_place_under_group}
use Rattle.xl_tree.proofs.places.from_place.Goals as goal
use Rattle.xl_tree.proofs.places.from_place.Goals.{in-Leaf, in-Group}

pub returns-in-Empty : goal.returns-in-Empty
returns-in-Empty g c =
    c.empty.ensures ∙ sym (from_place_past c.loop-passed._passed c.args.place c.args.stack (c.loop-passed.invariant
    ∙ sym c.in-Empty.ensures.parts) (omega arith))

pub loop-passed-preserved : goal.loop-passed-preserved
loop-passed-preserved g c =
    elim c.match-split.branch [
      | in-Leaf w ↦ from_place_under_leaf c.loop-passed._passed c.args.stack _ _ _ (c.loop-passed.invariant
          ∙ sym w.in-Leaf.ensures.parts) ∙ sym w.rest-is
      | in-Group w ↦ from_place_under_group c.loop-passed._passed c.args.stack _ _ _ _ (c.loop-passed.invariant
          ∙ sym w.in-Group.ensures.parts) ∙ sym w.rest-is
    ]
