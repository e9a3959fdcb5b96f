use Rattle.spec_tables.proofs.Chests.{some_list}
use Rattle.spec_tables.proofs.chest_agrees_with_a_list.Goals as goal

pub returns : goal.returns
returns c = some_list
