use Rattle.std.proofs.Common.{◌∙◌, ◌^◌, ◌-◌, ap, codes, Some, arith, true}
use Rattle.clap.specs.Words.{app_of}
use Rattle.spec_command.specs.Arguments.{make}
use Rattle.spec_command.specs.Grammar.{make_app, make_of}
use Rattle.xl_command.specs.Asking.{arguments_of}
use Rattle.xl_command.proofs.Given.{asked_given}
use Rattle.xl_command.proofs.Passed.{number_is_small, number_is_taken, seed_is_there}
use Rattle.xl_command.proofs.reading.make.Goals as goal

pub number_in-requires : goal.number_in-requires
number_in-requires c =
    let found = rw c.in-Some.is at c.in_ok-matches.ensures.ok in
    λ text has. number_is_small 0 (2 ^ 32 - 1) text (omega arith)
    (number_is_taken c.in_ok-make_command.field-0 c.in-Some.matches found.2 make_app 1 (codes "seed") 0 (2 ^ 32 - 1) true
    seed_is_there c.in_ok-make_command.ensures text has)

pub returns-clause-asked : goal.returns-clause-asked
returns-clause-asked c =
    let found = rw c.in-Some.is at c.in_ok-matches.ensures.ok in
    let name = rw c.in-Some-file_in.is at c.file_in.ensures in
    ap (λ n. Some (make c.in-Some-file_in.name.now n)) c.number_in.ensures
    ∙ asked_given (app_of c.in_ok-make_command.field-0) make_app
    (arguments_of c.args.arguments.now) make_of c.in-Some.matches c.in-Some-file_in.name.now c.in_ok-make_command.ensures
    found.0 found.1 name
