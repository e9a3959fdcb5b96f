use Rattle.xl_run.proofs.Lined.{legal_has_lines}
use Rattle.xl_run.proofs.printing.each_entry_is_printed.Goals as goal

pub returns : goal.returns
returns c = legal_has_lines
