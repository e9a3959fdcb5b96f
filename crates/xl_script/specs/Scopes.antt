-- Which lines a script may have.
use Rattle.std.specs.Prelude.{ℕ, Bool, true, ◌&&◌, ◌==◌, List, map, Result}
use Rattle.spec_script.specs.Commands.{Asked}
use Rattle.spec_script.specs.Script as script
use Rattle.spec_view.specs.Script.{is_viewed, viewed_line}
use Rattle.xl_script.specs.declared.scope.Scope.{Scope}
use Rattle.xl_script.specs.declared.scope.Scope.TheVariants.{Whole, Viewed}

-- whether what a line asks for may stand in it
abbrev pub may_ask : Scope → Asked → Bool
may_ask Whole asked = true
may_ask Viewed asked = asked.session == 0 && is_viewed asked.command

-- a line as it is taken
abbrev pub line_in : Scope → List ℕ → List ℕ
line_in Whole line = line
line_in Viewed line = viewed_line line

-- the lines of the sessions, or the refused line
abbrev pub script_in : Scope → (text chests : List ℕ) → Result (List (List script.Line)) ℕ
script_in scope text chests = script.script_of (map (line_in scope)) text chests
