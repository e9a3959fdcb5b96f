use Rattle.core_rows.proofs.bench.Bench.ask.Given as goal

abbrev pub ghosts-submit : goal.ghosts-submit
ghosts-submit a = record { name = a.blank.name; parts = a.blank.parts }
