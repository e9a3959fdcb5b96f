-- Which arguments are a command: each name has a simple command of its own, and clap says which arguments are in order for it. The name
-- of the file does not begin with a minus, behind -- either.
use Rattle.std.specs.Prelude.{ℕ, ◌-◌, ◌^◌, Bool, true, false, pos, nat_abs, List, [], ◌∷◌, if◌then◌else◌, codes}
use Rattle.std.specs.Prelude.{Option, Some, None, option_map, unwrap_or}
use Rattle.std.specs.Str.{bytes_eq}
use Rattle.std.specs.Str.Parse.{starts_with_minus, signed_digits_value}
use Rattle.clap.specs.Walk.{Rule, Row, first_of, is_empty}
use Rattle.clap.specs.Simple.{App, new_rule, new_app, with_rule, matches_of}
use Rattle.clap.specs.Faults.{fault_of}
use Rattle.clap.specs.declared.builder.action.ArgAction.TheVariants as action
use Rattle.clap.specs.declared.builder.value_parser.ValueParser.TheVariants as parser
use Rattle.spec_command.specs.Arguments.{Argument, Asked, edit, render, info, make, pack, flatten, view, audit}

-- an argument without an option's name, which has to be there
abbrev pub file_rule : Rule
file_rule = record (new_rule (codes "file")) { required = true }

-- an option with a number from the least to the greatest one
abbrev pub number_rule : (name : Argument) → (least most : ℕ) → (required : Bool) → Rule
number_rule name least most required =
    record (new_rule name) { long = Some name; parser = Some (parser.Signed (pos least) (pos most)); required = required }

-- an option that has no value
abbrev pub flag_rule : (name : Argument) → Rule
flag_rule name = record (new_rule name) { long = Some name; action = Some action.SetTrue }

abbrev pub plain_app : (name : Argument) → App
plain_app name = with_rule (new_app name) file_rule

abbrev pub edit_app : App
edit_app = with_rule (plain_app (codes "edit")) (number_rule (codes "workers") 0 8 false)

abbrev pub info_app : App
info_app = with_rule (plain_app (codes "info")) (flag_rule (codes "all"))

abbrev pub make_app : App
make_app = with_rule (plain_app (codes "make")) (number_rule (codes "seed") 0 (2 ^ 32 - 1) true)

abbrev pub pack_app : App
pack_app = with_rule (plain_app (codes "pack")) (flag_rule (codes "plan"))

abbrev pub view_app : App
view_app =
    with_rule (with_rule (plain_app (codes "view")) (number_rule (codes "cols") 1 16 true)) (number_rule (codes "rows") 1 16 true)

-- the number of an option, or another where it is not given
abbrev pub number_of : List Row → (name : Argument) → (default : ℕ) → ℕ
number_of rows name default = unwrap_or (option_map (λ text. nat_abs (signed_digits_value 10 text)) (first_of name rows)) default

-- whether an option that has no value is given
abbrev pub is_given : List Row → (name : Argument) → Bool
is_given rows name = bytes_eq (unwrap_or (first_of name rows) []) (codes "true")

abbrev pub file_where : (Argument → Asked) → Option Argument → Option Asked
file_where ask None = None
file_where ask (Some name) = if starts_with_minus name then None else Some (ask name)

-- clap finds no fault in the arguments
abbrev pub is_faultless : App → List Argument → Bool
is_faultless app arguments = is_empty (fault_of app arguments)

-- what the arguments ask for where they are in order for the command; the first is the name of the command
abbrev pub asked_where : App → List Argument → (List Row → Argument → Asked) → Option Asked
asked_where app arguments ask =
    let rows = matches_of app arguments in
    let found = file_where (ask rows) (first_of (codes "file") rows) in
    if is_faultless app arguments then found else None

abbrev pub edit_of : List Row → Argument → Asked
edit_of rows name = edit name (number_of rows (codes "workers") 2)

abbrev pub info_of : List Row → Argument → Asked
info_of rows name = info name (is_given rows (codes "all"))

abbrev pub make_of : List Row → Argument → Asked
make_of rows name = make name (number_of rows (codes "seed") 0)

abbrev pub pack_of : List Row → Argument → Asked
pack_of rows name = pack name (is_given rows (codes "plan"))

abbrev pub view_of : List Row → Argument → Asked
view_of rows name = view name (number_of rows (codes "cols") 1) (number_of rows (codes "rows") 1)

abbrev pub plain_of : (Argument → Asked) → List Row → Argument → Asked
plain_of ask rows name = ask name

-- what the arguments ask for, if they are a command
abbrev pub asked_in : List Argument → Option Asked
asked_in [] = None
asked_in (verb ∷ arguments) =
    if bytes_eq verb (codes "edit") then asked_where edit_app (verb ∷ arguments) edit_of else
    if bytes_eq verb (codes "render") then asked_where (plain_app verb) (verb ∷ arguments) (plain_of render) else
    if bytes_eq verb (codes "info") then asked_where info_app (verb ∷ arguments) info_of else
    if bytes_eq verb (codes "make") then asked_where make_app (verb ∷ arguments) make_of else
    if bytes_eq verb (codes "pack") then asked_where pack_app (verb ∷ arguments) pack_of else
    if bytes_eq verb (codes "flatten") then asked_where (plain_app verb) (verb ∷ arguments) (plain_of flatten) else
    if bytes_eq verb (codes "view") then asked_where view_app (verb ∷ arguments) view_of else
    if bytes_eq verb (codes "audit") then asked_where (plain_app verb) (verb ∷ arguments) (plain_of audit) else None
