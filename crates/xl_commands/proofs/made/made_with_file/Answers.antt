use Rattle.std.proofs.Common.{subst}
use Rattle.spec_document.specs.Document.{Document}
use Rattle.spec_layout.specs.Layout.{Written}
use Rattle.xl_commands.proofs.made.made_with_file.Goals as goal

pub returns-clause-file : goal.returns-clause-file
returns-clause-file c =
    subst (λ (d : Document). Written c.in_ok-file.file d) c.in_ok-made.ensures.document c.in_ok-file.ensures.written
