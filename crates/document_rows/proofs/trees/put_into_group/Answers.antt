use Rattle.std.proofs.Common.{refl, nat_eq, [], ◌∷◌}
use Rattle.std.specs.List.{IsDistinct}
use Rattle.document_rows.proofs.trees.put_into_group.Goals as goal

two_apart : IsDistinct nat_eq (7 ∷ 5 ∷ [])
unfolding IsDistinct
two_apart = ((refl, tt), (tt, tt))

pub graft-requires-clause-apart : goal.graft-requires-clause-apart
graft-requires-clause-apart c =
    rw c.remove.ensures.branch (rw c.remove.ensures.tree (rw c.remove.ensures.answer (rw c.requires two_apart)))
