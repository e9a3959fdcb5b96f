use Rattle.std.proofs.Common.{sym, ◌∙◌, ap}
use Rattle.spec_document.specs.Forest.{size}
use Rattle.xl_tree.proofs.Flat.{size-forest_of}
use Rattle.xl_tree.proofs.stacks.Stack.len.Goals as goal

pub returns-clause-len : goal.returns-clause-len
returns-clause-len g c = sym (size-forest_of _ _ c.self.invariant.flat_is) ∙ ap size c.self.view_is
