use Rattle.std.proofs.Common.{◌∙◌}
use Rattle.clap.specs.Matches.{found_of}
use Rattle.xl_command.proofs.Given.{flag_none, flag_some}
use Rattle.xl_command.proofs.reading.flag_in.Goals as goal

pub returns-in-None : goal.returns-in-None
returns-in-None c = flag_none (found_of c.args.matches.now) c.args.id.now c.get_str.result c.get_str.ensures c.in-None.is

pub returns-in-Some : goal.returns-in-Some
returns-in-Some c = c.eq.ensures ∙
    flag_some (found_of c.args.matches.now) c.args.id.now c.get_str.result c.in-Some.text c.get_str.ensures c.in-Some.is
