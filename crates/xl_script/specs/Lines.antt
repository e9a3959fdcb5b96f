-- What the lines of the code mean.
use Rattle.std.specs.Prelude.{List, map}
use Rattle.spec_script.specs.Script as script
use Rattle.xl_calls.specs.Calls.{call_of}
use Rattle.xl_script.specs.declared.script.Line.{Line}
use Rattle.xl_script.specs.declared.script.Line.TheVariants.{Call, Save, Forget}

abbrev pub line_of : Line → script.Line
line_of (Call call) = script.call (call_of call)
line_of Save = script.save
line_of (Forget slot) = script.forget slot

abbrev pub lines_of : List Line → List script.Line
lines_of lines = map line_of lines

-- session by session
abbrev pub lists_of : List (List Line) → List (List script.Line)
lists_of lists = map lines_of lists
