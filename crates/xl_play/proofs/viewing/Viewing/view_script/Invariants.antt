use Rattle.xl_play.proofs.viewing.Viewing.view_script.Given as goal

abbrev pub ghosts-view_lines : goal.ghosts-view_lines
ghosts-view_lines g a = record { name = a.blank.name; parts = a.blank.parts }
