use Rattle.std.proofs.Common.{◌≡◌, ◌+◌, ◌-◌, get_or, sym, ◌∙◌, ap, arith}
use Rattle.spec_document.specs.Forest.{size}
use Rattle.xl_tree.proofs.Paths.{end_more, end_past, end_in_leaf, size-from_place}
use Rattle.xl_tree.proofs.places.end_at.Goals as goal

pub returns-in-Empty : goal.returns-in-Empty
returns-in-Empty g c =
    sym (end_past c.args.path.now c.loop-place.place-index c.args.stack c.loop-place.rest _ (omega arith) c.loop-place.invariant.0
    (sym c.from_place-at.ensures ∙ sym c.in-Empty.ensures.parts))

pub returns-in-Leaf : goal.returns-in-Leaf
returns-in-Leaf g c =
    sym (end_in_leaf c.args.path.now c.loop-place.place-index c.args.stack c.loop-place.rest _ _ _ _
    (omega arith) c.loop-place.invariant.0 (sym c.from_place-at.ensures ∙ sym c.in-Leaf.ensures.parts))

pub overflow_sub-before : goal.overflow_sub-before
overflow_sub-before g c =
    omega (
      arith,
      size-from_place (get_or c.args.path.now c.loop-place.place-index 0) c.loop-place.rest,
      ap size c.from_place-at.ensures,
    )

pub loop-place-preserved : goal.loop-place-preserved
loop-place-preserved g c =
    let e = sym c.from_place-at.ensures ∙ sym c.in-Group.ensures.parts in
    let k : (c.len-all.result - c.len-left.result + 1) + (size c.in-Group.children + size c.in-Group.under)
    ≡ size c.loop-place.rest =
    omega (
      arith,
      size-from_place (get_or c.args.path.now c.loop-place.place-index 0) c.loop-place.rest,
      ap size c.from_place-at.ensures,
      ap size c.in-Group.ensures.parts,
    ) in (
      end_more c.args.path.now c.loop-place.place-index c.args.stack c.loop-place.rest c.in-Group.children _ _ _ _ _
          (omega arith) c.loop-place.invariant.0 e k,
      omega arith,
    )
