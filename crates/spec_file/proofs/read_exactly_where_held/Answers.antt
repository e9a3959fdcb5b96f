use Rattle.spec_file.proofs.HoldsRead.{holds_read}
use Rattle.spec_file.proofs.ReadHeld.{read_held}
use Rattle.spec_file.proofs.read_exactly_where_held.Goals as goal

pub returns : goal.returns
returns c = λ file d all. (holds_read file d, read_held file d all)
