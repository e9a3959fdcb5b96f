use Rattle.core_rows.proofs.twice.made_twice.Given as goal

abbrev pub ghosts-look_counted-L-Ledger : goal.ghosts-look_counted-L-Ledger
ghosts-look_counted-L-Ledger a = record { name = a.blank.name; parts = a.blank.parts }

abbrev pub ghosts-look_counted-M-Ledger : goal.ghosts-look_counted-M-Ledger
ghosts-look_counted-M-Ledger a = record { name = a.other.name; parts = a.other.parts }
