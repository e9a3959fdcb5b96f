use Rattle.xl_audit.proofs.judging.find_verdict.Given as goal

abbrev pub ghosts-audit_on : goal.ghosts-audit_on
ghosts-audit_on g a = record { name = a.blank.name; parts = a.blank.parts }
