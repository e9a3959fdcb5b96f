-- The stack has one child less where the node is one.
use Rattle.std.proofs.Common.{sym, ◌∙◌, ap, arith}
use Rattle.xl_edit.proofs.NodesRestacked.{children_without}
use Rattle.xl_edit.proofs.WithoutBranch.{one}
use Rattle.xl_edit.proofs.restacking.child_count_without.Goals as goal

pub overflow_sub-result : goal.overflow_sub-result
overflow_sub-result c =
    let d = c.args.doc.now in
    let left = children_without c.args.id.0 c.args.stack.0 d c.know_limits.ensures.ids.distinct c.requires.outside in
    let is = ap one (sym c.has_child.ensures ∙ c.if-has_child.true) in
    omega (arith, left, is, c.child_count-count.ensures)

pub returns-then-has_child : goal.returns-then-has_child
returns-then-has_child c =
    let d = c.args.doc.now in
    let left = children_without c.args.id.0 c.args.stack.0 d c.know_limits.ensures.ids.distinct c.requires.outside in
    let is = ap one (sym c.has_child.ensures ∙ c.if-has_child.true) in
    omega (arith, left, is, c.child_count-count.ensures)

pub returns-else-has_child : goal.returns-else-has_child
returns-else-has_child c =
    let d = c.args.doc.now in
    let left = children_without c.args.id.0 c.args.stack.0 d c.know_limits.ensures.ids.distinct c.requires.outside in
    let is = ap one (sym c.has_child.ensures ∙ c.if-has_child.false) in
    omega (arith, left, is, c.child_count-count.ensures)
