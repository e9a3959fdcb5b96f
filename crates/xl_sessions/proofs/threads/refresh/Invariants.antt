use Rattle.xl_sessions.proofs.threads.refresh.Given as goal

abbrev pub ghosts-work_with : goal.ghosts-work_with
ghosts-work_with g a = record { name = a.blank.name; parts = a.blank.parts }
