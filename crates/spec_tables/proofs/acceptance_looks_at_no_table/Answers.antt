use Rattle.std.proofs.Common.{refl}
use Rattle.spec_tables.proofs.Accepted.{same_refused}
use Rattle.spec_tables.proofs.acceptance_looks_at_no_table.Goals as goal

pub returns : goal.returns
returns c = λ old edits tables others. same_refused 0 old old edits tables others refl refl
