use Rattle.std.proofs.Common.{◌∙◌, ap, codes, false, Some, arith}
use Rattle.clap.specs.Words.{app_of, found_of, rows_of}
use Rattle.spec_command.specs.Arguments.{edit}
use Rattle.spec_command.specs.Grammar.{edit_app, edit_of}
use Rattle.xl_command.specs.Asking.{arguments_of}
use Rattle.xl_command.proofs.Given.{asked_given}
use Rattle.xl_command.proofs.Passed.{number_is_small, number_is_taken, number_is_within, workers_are_there}
use Rattle.xl_command.proofs.reading.edit.Goals as goal

pub number_in-requires : goal.number_in-requires
number_in-requires c =
    let found = rw c.in-Some.is at c.in_ok-matches.ensures.ok in
    λ text has. number_is_small 0 8 text (omega arith)
    (number_is_taken c.in_ok-edit_command.field-0 c.in-Some.matches found.2 edit_app 1 (codes "workers") 0 8 false
    workers_are_there c.in_ok-edit_command.ensures text has)

pub returns-clause-asked : goal.returns-clause-asked
returns-clause-asked c =
    let found = rw c.in-Some.is at c.in_ok-matches.ensures.ok in
    let name = rw c.in-Some-file_in.is at c.file_in.ensures in
    ap (λ n. Some (edit c.in-Some-file_in.name.now n)) c.number_in.ensures
    ∙ asked_given (app_of c.in_ok-edit_command.field-0) edit_app
    (arguments_of c.args.arguments.now) edit_of c.in-Some.matches c.in-Some-file_in.name.now c.in_ok-edit_command.ensures
    found.0 found.1 name

pub returns-clause-range : goal.returns-clause-range
returns-clause-range c =
    let found = rw c.in-Some.is at c.in_ok-matches.ensures.ok in
    let few = (number_is_within (rows_of (found_of c.in-Some.matches)) (codes "workers") 2 0 8 (omega arith) (omega arith)
    (number_is_taken c.in_ok-edit_command.field-0 c.in-Some.matches found.2 edit_app 1 (codes "workers") 0 8 false
    workers_are_there c.in_ok-edit_command.ensures)).1 in
    let same = c.number_in.ensures in
    omega (arith, few, same)
