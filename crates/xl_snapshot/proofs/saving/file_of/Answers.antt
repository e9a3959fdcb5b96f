use Rattle.spec_layout.proofs.AnyCoder.{any_coder}
use Rattle.xl_snapshot.proofs.saving.file_of.Goals as goal

pub returns-in-Ok-clause-written : goal.returns-in-Ok-clause-written
returns-in-Ok-clause-written g c = any_coder _ c.in-Ok.file c.args.document.now c.in-Ok.ensures.written
