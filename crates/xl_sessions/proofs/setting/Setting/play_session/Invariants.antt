use Rattle.xl_sessions.proofs.setting.Setting.play_session.Given as goal

abbrev pub ghosts-play_lines : goal.ghosts-play_lines
ghosts-play_lines g a = record { name = a.blank.name; parts = a.blank.parts }
