use Rattle.std.proofs.Common.{ap, arith}
use Rattle.spec_document.specs.Forest.{size}
use Rattle.spec_document.proofs.Holes.{passed_within}
use Rattle.xl_tree.specs.Flat.{forest_of}
use Rattle.xl_tree.proofs.Flat.{size-forest_of}
use Rattle.xl_tree.proofs.Stands.{slot_from}
use Rattle.xl_tree.proofs.slots.slot_in.Goals as goal

pub overflow_add-result : goal.overflow_add-result
overflow_add-result g c =
    let s = c.in_ok-first.ensures.stack in
    omega (
      arith,
      s.at_is,
      passed_within s.hole c.in_ok-first.nodes,
      ap size s.forest_is,
      size-forest_of 0 c.args.entries.now c.requires.siblings.flat_is,
      c.requires.siblings.few,
      c.in_ok-before.ensures.few,
    )

pub returns-clause-slot : goal.returns-clause-slot
returns-clause-slot g c =
    slot_from c.args.stack.0 c.args.place
    (forest_of c.args.entries.now) c.in_ok-first.nodes _ _ _ c.in_ok-first.ensures.stack c.in_ok-before.ensures.before
