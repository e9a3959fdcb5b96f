use Rattle.core_rows.proofs.verdicts.verdict_on.Given as goal

abbrev pub ghosts-audited : goal.ghosts-audited
ghosts-audited a = record { name = a.blank.name; parts = a.blank.parts }
