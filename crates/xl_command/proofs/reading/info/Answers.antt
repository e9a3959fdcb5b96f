use Rattle.std.proofs.Common.{◌∙◌, ap, Some}
use Rattle.clap.specs.Words.{app_of}
use Rattle.spec_command.specs.Arguments.{info}
use Rattle.spec_command.specs.Grammar.{info_app, info_of}
use Rattle.xl_command.specs.Asking.{arguments_of}
use Rattle.xl_command.proofs.Given.{asked_given}
use Rattle.xl_command.proofs.reading.info.Goals as goal

pub returns-clause-asked : goal.returns-clause-asked
returns-clause-asked c =
    let found = rw c.in-Some.is at c.in_ok-matches.ensures.ok in
    let name = rw c.in-Some-file_in.is at c.file_in.ensures in
    ap (λ given. Some (info c.in-Some-file_in.name.now given)) c.flag_in.ensures
    ∙ asked_given (app_of c.in_ok-info_command.field-0) info_app
    (arguments_of c.args.arguments.now) info_of c.in-Some.matches c.in-Some-file_in.name.now c.in_ok-info_command.ensures
    found.0 found.1 name
