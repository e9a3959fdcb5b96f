use Rattle.spec_file.proofs.ReadHeld.{read_held}
use Rattle.spec_file.proofs.HeldDocument.{held_document}
use Rattle.spec_file.proofs.what_is_read_is_document.Goals as goal

pub returns : goal.returns
returns c = λ file d all e. held_document file d all (read_held file d all e)
