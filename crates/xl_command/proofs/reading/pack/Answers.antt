use Rattle.std.proofs.Common.{◌∙◌, ap, Some}
use Rattle.clap.specs.Words.{app_of}
use Rattle.spec_command.specs.Arguments.{pack}
use Rattle.spec_command.specs.Grammar.{pack_app, pack_of}
use Rattle.xl_command.specs.Asking.{arguments_of}
use Rattle.xl_command.proofs.Given.{asked_given}
use Rattle.xl_command.proofs.reading.pack.Goals as goal

pub returns-clause-asked : goal.returns-clause-asked
returns-clause-asked c =
    let found = rw c.in-Some.is at c.in_ok-matches.ensures.ok in
    let name = rw c.in-Some-file_in.is at c.file_in.ensures in
    ap (λ given. Some (pack c.in-Some-file_in.name.now given)) c.flag_in.ensures
    ∙ asked_given (app_of c.in_ok-pack_command.field-0) pack_app
    (arguments_of c.args.arguments.now) pack_of c.in-Some.matches c.in-Some-file_in.name.now c.in_ok-pack_command.ensures
    found.0 found.1 name
