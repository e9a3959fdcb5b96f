use Rattle.spec_file.proofs.ReadHeld.{read_held}
use Rattle.spec_file.proofs.what_is_read_is_held.Goals as goal

pub returns : goal.returns
returns c = read_held
