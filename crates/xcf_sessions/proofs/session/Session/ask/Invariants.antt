use Rattle.xcf_sessions.proofs.session.Session.ask.Given as goal

abbrev pub ghosts-submit : goal.ghosts-submit
ghosts-submit g a = record { name = a.blank.name; parts = a.blank.parts }
