use Rattle.spec_tables.proofs.Chests.{some_list, agree_same}
use Rattle.spec_tables.proofs.unused_chest_is_as_before.Goals as goal

pub returns : goal.returns
returns c = λ old new used. let list = some_list old in agree_same old new list.0 used.slots list.1 (used.states list.0 list.1)
