use Rattle.std.proofs.Common.{◌∙◌, ap, codes, true, Some, arith}
use Rattle.clap.specs.Words.{app_of, found_of, rows_of}
use Rattle.spec_command.specs.Arguments.{view}
use Rattle.spec_command.specs.Grammar.{number_of, view_app, view_of}
use Rattle.xl_command.specs.Asking.{arguments_of}
use Rattle.xl_command.proofs.Given.{asked_given}
use Rattle.xl_command.proofs.Passed.{cols_are_there, number_is_small, number_is_taken, number_is_within, rows_are_there}
use Rattle.xl_command.proofs.reading.view.Goals as goal

pub number_in-cols-requires : goal.number_in-cols-requires
number_in-cols-requires c =
    let found = rw c.in-Some.is at c.in_ok-matches.ensures.ok in
    λ text has. number_is_small 1 16 text (omega arith)
    (number_is_taken c.in_ok-view_command.field-0 c.in-Some.matches found.2 view_app 1 (codes "cols") 1 16 true
    cols_are_there c.in_ok-view_command.ensures text has)

pub number_in-rows-requires : goal.number_in-rows-requires
number_in-rows-requires c =
    let found = rw c.in-Some.is at c.in_ok-matches.ensures.ok in
    λ text has. number_is_small 1 16 text (omega arith)
    (number_is_taken c.in_ok-view_command.field-0 c.in-Some.matches found.2 view_app 2 (codes "rows") 1 16 true
    rows_are_there c.in_ok-view_command.ensures text has)

pub returns-clause-asked : goal.returns-clause-asked
returns-clause-asked c =
    let found = rw c.in-Some.is at c.in_ok-matches.ensures.ok in
    let given = rows_of (found_of c.in-Some.matches) in
    let name = rw c.in-Some-file_in.is at c.file_in.ensures in
    ap (λ n. Some (view c.in-Some-file_in.name.now n c.number_in-rows.result)) c.number_in-cols.ensures
    ∙ (ap (λ n. Some (view c.in-Some-file_in.name.now (number_of given (codes "cols") 1) n)) c.number_in-rows.ensures
    ∙ asked_given (app_of c.in_ok-view_command.field-0) view_app
    (arguments_of c.args.arguments.now) view_of c.in-Some.matches c.in-Some-file_in.name.now c.in_ok-view_command.ensures
    found.0 found.1 name)

pub returns-clause-range : goal.returns-clause-range
returns-clause-range c =
    let found = rw c.in-Some.is at c.in_ok-matches.ensures.ok in
    let cols = number_is_within (rows_of (found_of c.in-Some.matches)) (codes "cols") 1 1 16 (omega arith) (omega arith)
    (number_is_taken c.in_ok-view_command.field-0 c.in-Some.matches found.2 view_app 1 (codes "cols") 1 16 true
    cols_are_there c.in_ok-view_command.ensures) in
    let rows = number_is_within (rows_of (found_of c.in-Some.matches)) (codes "rows") 1 1 16 (omega arith) (omega arith)
    (number_is_taken c.in_ok-view_command.field-0 c.in-Some.matches found.2 view_app 2 (codes "rows") 1 16 true
    rows_are_there c.in_ok-view_command.ensures) in
    let cols_is = c.number_in-cols.ensures in
    let rows_is = c.number_in-rows.ensures in
    let cols_low = cols.0 in
    let cols_high = cols.1 in
    let rows_low = rows.0 in
    let rows_high = rows.1 in
    record {
      some_cols = omega (arith, cols_low, cols_is);
      few_cols = omega (arith, cols_high, cols_is);
      some_rows = omega (arith, rows_low, rows_is);
      few_rows = omega (arith, rows_high, rows_is);
    }
