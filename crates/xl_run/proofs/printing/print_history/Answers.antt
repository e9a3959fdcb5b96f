use Rattle.std.proofs.Common.{map, string_bytes}
use Rattle.xl_run.proofs.Printed.{text_is_printed}
use Rattle.xl_run.proofs.printing.print_history.Goals as goal

pub returns : goal.returns
returns c = λ base. text_is_printed c.print_all.result string_bytes base c.args.entries.now
    (map (λ ds. map string_bytes ds.items) c.args.digests.now) c.print_all.ensures
