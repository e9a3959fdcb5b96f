use Rattle.std.proofs.Common.{[], ◌∷◌}
use Rattle.spec_audit.proofs.Names.{script_numbers}
use Rattle.core_rows.proofs.verdicts.verdict_on.Goals as goal

pub audited-verdict-requires-clause-numbers : goal.audited-verdict-requires-clause-numbers
audited-verdict-requires-clause-numbers c = script_numbers c.args.script.now (4 ∷ 4 ∷ []) _ c.in_ok-script.ensures.read
