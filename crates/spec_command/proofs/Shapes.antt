-- What arguments ask for by their shape alone. It stands apart from the definitions of clap, so that rows compare both.
use Rattle.std.specs.Prelude.{ℕ, ◌-◌, ◌^◌, Bool, true, false, not, ◌&&◌, ◌||◌, ◌==◌, nat_lt, nat_le, nat_eq}
use Rattle.std.specs.Prelude.{if◌then◌else◌, List, [], ◌∷◌, ◌++◌, length, drop, fold, codes, Option, Some, None}
use Rattle.std.specs.Prelude.{option_and_then, option_map, is_some}
use Rattle.std.specs.List.{list_all, starts_with}
use Rattle.std.specs.Str.{bytes_eq}
use Rattle.std.specs.Str.Parse.{digits_value, without_leading_sign, starts_with_minus}
use Rattle.spec_command.specs.Arguments.{Argument, Asked, edit, render, info, make, pack, flatten, view, audit}

-- ---- the arguments behind a command's name

-- the options of a command: those that take a value, and those that take none
pub record Options : Type 0 where
  pub valued : List Argument
  pub flags : List Argument

-- What stands there so far: files, and options with their values, of which one may wait for its own. Behind -- each argument is a
-- file.
pub record Held : Type 0 where
  pub files : List Argument
  pub values : List (Argument × Argument)
  pub waits : Option Argument
  pub only_files : Bool

abbrev pub nothing_held : Held
nothing_held = record { files = []; values = []; waits = None; only_files = false }

-- a minus and more
abbrev pub is_option : Argument → Bool
is_option argument = starts_with_minus argument && nat_lt 1 (length argument)

-- what begins as an option's name with an equals sign has its value behind it
abbrev pub begins_with : Argument → Argument → Bool
begins_with argument start = starts_with nat_eq argument start

abbrev pub value_in : (option : Argument) → List (Argument × Argument) → Option Argument
value_in option [] = None
value_in option (given ∷ values) = if bytes_eq given.0 option then Some given.1 else value_in option values

abbrev pub add_file : Held → Argument → Option Held
add_file held argument = Some (record held { files = held.files ++ argument ∷ [] })

-- an option is given once
abbrev pub set_value : (option : Argument) → Held → Argument → Option Held
set_value option held argument =
    if is_some (value_in option held.values) then None else
    Some (record held { values = held.values ++ (option, argument) ∷ []; waits = None })

abbrev pub set_waits : (option : Argument) → Held → Option Held
set_waits option held =
    if is_some (value_in option held.values) then None else Some (record held { waits = Some option })

-- one more argument, where it is one of these options
abbrev pub take_valued : List Argument → Held → Argument → Option Held
take_valued [] held argument = None
take_valued (option ∷ options) held argument =
    let with_equals = option ++ codes "=" in
    if bytes_eq argument option then set_waits option held else
    if begins_with argument with_equals then set_value option held (drop (length with_equals) argument) else
    take_valued options held argument

abbrev pub take_flag : List Argument → Held → Argument → Option Held
take_flag [] held argument = None
take_flag (option ∷ options) held argument =
    if bytes_eq argument option then set_value option held [] else take_flag options held argument

abbrev pub either : Option Held → Option Held → Option Held
either None other = other
either (Some held) other = Some held

abbrev pub take_waited : (waits : Option Argument) → Options → Held → Argument → Option Held
take_waited (Some option) options held argument = if is_option argument then None else set_value option held argument
take_waited None options held argument =
    if bytes_eq argument (codes "--") then Some (record held { only_files = true }) else
    if is_option argument then either (take_valued options.valued held argument) (take_flag options.flags held argument) else
    add_file held argument

-- one more argument, for a command with these options
abbrev pub take_argument : Options → Held → Argument → Option Held
take_argument options held argument =
    if held.only_files then add_file held argument else take_waited held.waits options held argument

-- all arguments behind the command's name
abbrev pub held_by : Options → List Argument → Option Held
held_by options arguments =
    fold (λ held argument. option_and_then (λ h. take_argument options h argument) held) (Some nothing_held) arguments

-- ---- what they ask for

-- the one file, whose name does not begin with a minus
abbrev pub file_in : List Argument → Option Argument
file_in (name ∷ []) = if starts_with_minus name then None else Some name
file_in files = None

abbrev pub file_of : Held → Option Argument
file_of held = if is_some held.waits then None else file_in held.files

abbrev pub is_digit : ℕ → Bool
is_digit b = nat_le 48 b && nat_le b 57

-- a number from the least to the greatest one, in decimal digits; a sign may stand before them
abbrev pub number_between : (least most : ℕ) → Argument → Option ℕ
number_between least most argument =
    let digits = without_leading_sign argument in
    let value = digits_value 10 digits in
    let is_number = nat_lt 0 (length digits) && list_all is_digit digits in
    let is_within = nat_le least value && nat_le value most in
    if is_number && (is_within && (not (starts_with_minus argument) || value == 0)) then Some value else None

-- the value of an option as a number, or another where the option is not given
abbrev pub number_or : (default : Option ℕ) → (least most : ℕ) → Option Argument → Option ℕ
number_or default least most None = default
number_or default least most (Some argument) = number_between least most argument

abbrev pub number_held : Held → (option : Argument) → (default : Option ℕ) → (least most : ℕ) → Option ℕ
number_held held option default least most = number_or default least most (value_in option held.values)

abbrev pub with_number : (Argument → ℕ → Asked) → Option Argument → Option ℕ → Option Asked
with_number ask name None = None
with_number ask name (Some n) = option_map (λ file. ask file n) name

-- without a number of workers these are 2
abbrev pub edit_held : Held → Option Asked
edit_held held = with_number edit (file_of held) (number_held held (codes "--workers") (Some 2) 0 8)

abbrev pub edit_shape : List Argument → Option Asked
edit_shape arguments =
    option_and_then edit_held (held_by (record { valued = codes "--workers" ∷ []; flags = [] }) arguments)

abbrev pub info_held : Held → Option Asked
info_held held = option_map (λ file. info file (is_some (value_in (codes "--all") held.values))) (file_of held)

abbrev pub info_shape : List Argument → Option Asked
info_shape arguments =
    option_and_then info_held (held_by (record { valued = []; flags = codes "--all" ∷ [] }) arguments)

abbrev pub make_held : Held → Option Asked
make_held held = with_number make (file_of held) (number_held held (codes "--seed") None 0 (2 ^ 32 - 1))

abbrev pub make_shape : List Argument → Option Asked
make_shape arguments =
    option_and_then make_held (held_by (record { valued = codes "--seed" ∷ []; flags = [] }) arguments)

abbrev pub pack_held : Held → Option Asked
pack_held held = option_map (λ file. pack file (is_some (value_in (codes "--plan") held.values))) (file_of held)

abbrev pub pack_shape : List Argument → Option Asked
pack_shape arguments =
    option_and_then pack_held (held_by (record { valued = []; flags = codes "--plan" ∷ [] }) arguments)

abbrev pub side_held : Held → (option : Argument) → Option ℕ
side_held held option = number_held held option None 1 16

abbrev pub view_held : Held → Option Asked
view_held held =
    option_and_then (λ cols. with_number (λ file rows. view file cols rows) (file_of held) (side_held held (codes "--rows")))
    (side_held held (codes "--cols"))

abbrev pub view_shape : List Argument → Option Asked
view_shape arguments =
    option_and_then view_held (held_by (record { valued = codes "--cols" ∷ codes "--rows" ∷ []; flags = [] }) arguments)

-- a command without an option
abbrev pub plain_shape : (Argument → Asked) → List Argument → Option Asked
plain_shape ask arguments =
    option_and_then (λ h. option_map ask (file_of h)) (held_by (record { valued = []; flags = [] }) arguments)

-- the command that the arguments are, and none for all other arguments
abbrev pub asked_by_shape : List Argument → Option Asked
asked_by_shape [] = None
asked_by_shape (verb ∷ arguments) =
    if bytes_eq verb (codes "edit") then edit_shape arguments else
    if bytes_eq verb (codes "render") then plain_shape render arguments else
    if bytes_eq verb (codes "info") then info_shape arguments else
    if bytes_eq verb (codes "make") then make_shape arguments else
    if bytes_eq verb (codes "pack") then pack_shape arguments else
    if bytes_eq verb (codes "flatten") then plain_shape flatten arguments else
    if bytes_eq verb (codes "view") then view_shape arguments else
    if bytes_eq verb (codes "audit") then plain_shape audit arguments else None
