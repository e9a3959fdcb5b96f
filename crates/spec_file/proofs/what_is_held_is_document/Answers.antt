use Rattle.spec_file.proofs.HeldDocument.{held_document}
use Rattle.spec_file.proofs.what_is_held_is_document.Goals as goal

pub returns : goal.returns
returns c = held_document
