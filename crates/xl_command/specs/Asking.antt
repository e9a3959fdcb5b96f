-- What a command of the code asks for.
use Rattle.std.specs.Prelude.{◌≤◌, ℕ, List, [], ◌∷◌, Option, Some, None, map, if◌then◌else◌, codes}
use Rattle.std.specs.Str.{bytes_eq}
use Rattle.clap.specs.Walk.{first_of}
use Rattle.clap.specs.Simple.{matches_of}
use denote.Ref.{Bor}
use Rattle.std.specs.Str.Parse.{starts_with_minus}
use Rattle.spec_command.specs.Arguments.{Argument, Asked, edit, render, info, make, pack, flatten, view, audit}
use Rattle.spec_command.specs.Grammar.{plain_app, is_faultless}
use Rattle.spec_window.specs.Window.{IsWindowSize}
use Rattle.xl_command.specs.declared.command.Command.{Command}
use Rattle.xl_command.specs.declared.command.Command.TheVariants as code

-- the arguments as their bytes
abbrev pub arguments_of : List (Bor Argument) → List Argument
arguments_of arguments = map (λ argument. argument.now) arguments

-- a name that does not begin with a minus
abbrev pub plain_name : Option Argument → Option Argument
plain_name None = None
plain_name (Some name) = if starts_with_minus name then None else Some name

-- the file of arguments that are in order for `serve`, which has a file alone
abbrev pub served_where : List Argument → Option Argument
served_where arguments =
    let app = plain_app (codes "serve") in
    let found = plain_name (first_of (codes "file") (matches_of app arguments)) in
    if is_faultless app arguments then found else None

-- the file that is served, if the arguments ask for that
abbrev pub served_in : List Argument → Option Argument
served_in [] = None
served_in (verb ∷ arguments) =
    let found = served_where (verb ∷ arguments) in
    if bytes_eq verb (codes "serve") then found else None

abbrev pub asked_of : Command → Asked
asked_of (code.Edit name workers) = edit name.now workers
asked_of (code.Render name) = render name.now
asked_of (code.Info name with_all) = info name.now with_all
asked_of (code.Make name seed) = make name.now seed
asked_of (code.Pack name with_plans) = pack name.now with_plans
asked_of (code.Flatten name) = flatten name.now
asked_of (code.View name cols rows) = view name.now cols rows
asked_of (code.Audit name) = audit name.now

-- an edit asks for eight workers at most, and a view for a window
abbrev pub IsInRange : Asked → Type 0
IsInRange (edit name workers) = workers ≤ 8
IsInRange (render name) = Unit {0}
IsInRange (info name with_all) = Unit {0}
IsInRange (make name seed) = Unit {0}
IsInRange (pack name with_plans) = Unit {0}
IsInRange (flatten name) = Unit {0}
IsInRange (view name cols rows) = IsWindowSize cols rows
IsInRange (audit name) = Unit {0}
