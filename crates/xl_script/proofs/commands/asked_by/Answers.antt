use Rattle.xl_script.proofs.Asking.{command_asked}
use Rattle.xl_script.proofs.commands.asked_by.Goals as goal

pub returns-clause-asked : goal.returns-clause-asked
returns-clause-asked c =
    command_asked _ _ _ _ _ _ _ _ c.first_word.ensures c.in-Some.ensures c.in_ok-session.ensures.value c.in_ok-known.ensures
    c.in_ok-command.ensures
