use Rattle.std.proofs.Common.{sym, ◌∙◌, ap}
use Rattle.spec_document.specs.Forest.{size}
use Rattle.xl_tree.proofs.Flat.{size-forest_of}
use Rattle.xl_tree.proofs.forest.Tree.len.Goals as goal

pub returns-clause-len : goal.returns-clause-len
returns-clause-len g c = c.len.ensures
    ∙ (c.self.inside.entries.ok.0 ∙ (sym (size-forest_of 0 _ c.self.invariant.siblings.flat_is) ∙ ap size c.self.view_is))
