use Rattle.std.proofs.Common.{sym, ◌∙◌, ap, arith, eqb-true, length}
use Rattle.spec_document.specs.Forest.{levels}
use Rattle.xl_tree.proofs.Deepest.{levels_from_deepest, no_levels, some_there}
use Rattle.xl_tree.proofs.stacks.Stack.levels.Goals as goal

pub overflow_add-result : goal.overflow_add-result
overflow_add-result g c =
    let there = some_there (length c.self.inside.entries.now) (sym c.is_empty.ensures ∙ c.if-is_empty.false) in
    omega (arith, levels_from_deepest c.self.inside.level c.self.inside.entries.now c.self.invariant there, c.self.invariant.low)

pub returns-then-is_empty-clause-levels : goal.returns-then-is_empty-clause-levels
returns-then-is_empty-clause-levels g c =
    let empty = eqb-true (length c.self.inside.entries.now) 0 (sym c.is_empty.ensures ∙ c.if-is_empty.true) in
    sym (no_levels c.self.inside.level c.self.inside.entries.now empty) ∙ ap levels c.self.view_is

pub returns-clause-levels : goal.returns-clause-levels
returns-clause-levels g c =
    let there = some_there (length c.self.inside.entries.now) (sym c.is_empty.ensures ∙ c.if-is_empty.false) in
    omega (
      arith,
      levels_from_deepest c.self.inside.level c.self.inside.entries.now c.self.invariant there,
      ap levels c.self.view_is,
    )

pub returns-clause-low : goal.returns-clause-low
returns-clause-low g c =
    let there = some_there (length c.self.inside.entries.now) (sym c.is_empty.ensures ∙ c.if-is_empty.false) in
    omega (arith, levels_from_deepest c.self.inside.level c.self.inside.entries.now c.self.invariant there, c.self.invariant.low)
