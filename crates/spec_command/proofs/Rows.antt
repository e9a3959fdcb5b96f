-- Worked arguments and ends.
use Rattle.std.specs.Prelude.{◌≡◌, true, false, List, [], ◌∷◌, ◌++◌, map, codes, Option, Some, None, refl}
use Rattle.std.specs.Fmt.{digits}
use Rattle.std.specs.Str.{chars}
use Rattle.clap.specs.Walk.{walked, bundle_met}
use Rattle.clap.specs.Faults.{walk_fault, flags_fault, defaults_fault}
use Rattle.spec_fields.specs.declared.Kind.TheVariants.{Truncated}
use Rattle.spec_flat.specs.declared.FlatRefused.TheVariants.{TooMany}
use Rattle.spec_command.specs.Arguments.{Argument, Asked, edit, render, info, make, pack, flatten, view, audit}
use Rattle.spec_command.specs.Grammar.{asked_in}
use Rattle.spec_command.proofs.Shapes.{asked_by_shape}
use Rattle.spec_command.specs.Ends.{usage, source_fault, bad_head, bad_line, shelf_fault, refused, flat_refused, stop_line}

-- ---- arguments that are a command; each computed apart from the definitions

abbrev commands : List (List Argument)
commands =
    (codes "edit" ∷ codes "f" ∷ [])
    ∷ (codes "edit" ∷ codes "f" ∷ codes "--workers" ∷ codes "0" ∷ [])
    ∷ (codes "edit" ∷ codes "f" ∷ codes "--workers" ∷ codes "8" ∷ [])
    ∷ (codes "edit" ∷ codes "--workers" ∷ codes "3" ∷ codes "f" ∷ [])
    ∷ (codes "edit" ∷ codes "f" ∷ codes "--workers=4" ∷ [])
    ∷ (codes "edit" ∷ codes "f" ∷ codes "--workers=-0" ∷ [])
    ∷ (codes "edit" ∷ codes "f" ∷ codes "--workers" ∷ codes "+5" ∷ [])
    ∷ (codes "edit" ∷ codes "f" ∷ codes "--workers=+5" ∷ [])
    ∷ (codes "edit" ∷ codes "f" ∷ codes "--workers" ∷ codes "007" ∷ [])
    ∷ (codes "edit" ∷ codes "--" ∷ codes "f" ∷ [])
    ∷ (codes "edit" ∷ codes "--workers" ∷ codes "2" ∷ codes "--" ∷ codes "f" ∷ [])
    ∷ (codes "render" ∷ codes "f" ∷ [])
    ∷ (codes "render" ∷ codes "--" ∷ codes "f" ∷ [])
    ∷ (codes "info" ∷ codes "f" ∷ [])
    ∷ (codes "info" ∷ codes "f" ∷ codes "--all" ∷ [])
    ∷ (codes "info" ∷ codes "--all" ∷ codes "--" ∷ codes "f" ∷ [])
    ∷ (codes "make" ∷ codes "f" ∷ codes "--seed" ∷ codes "7" ∷ [])
    ∷ (codes "make" ∷ codes "--seed" ∷ codes "4294967295" ∷ codes "f" ∷ [])
    ∷ (codes "make" ∷ codes "f" ∷ codes "--seed=0" ∷ [])
    ∷ (codes "edit" ∷ codes "f" ∷ codes "--" ∷ [])
    ∷ (codes "edit" ∷ codes "--workers" ∷ codes "2" ∷ codes "f" ∷ codes "--" ∷ [])
    ∷ (codes "edit" ∷ codes "" ∷ [])
    ∷ (codes "edit" ∷ codes "" ∷ codes "--workers" ∷ codes "2" ∷ [])
    ∷ (codes "edit" ∷ codes "a b" ∷ [])
    ∷ (codes "render" ∷ codes "" ∷ [])
    ∷ (codes "make" ∷ codes "9" ∷ codes "--seed" ∷ codes "9" ∷ [])
    ∷ (codes "edit" ∷ codes "--" ∷ codes "9" ∷ [])
    ∷ (codes "pack" ∷ codes "f" ∷ [])
    ∷ (codes "pack" ∷ codes "f" ∷ codes "--plan" ∷ [])
    ∷ (codes "pack" ∷ codes "--plan" ∷ codes "--" ∷ codes "f" ∷ [])
    ∷ (codes "flatten" ∷ codes "f" ∷ [])
    ∷ (codes "view" ∷ codes "f" ∷ codes "--cols" ∷ codes "1" ∷ codes "--rows" ∷ codes "16" ∷ [])
    ∷ (codes "view" ∷ codes "--rows=2" ∷ codes "--cols=03" ∷ codes "f" ∷ [])
    ∷ (codes "audit" ∷ codes "f" ∷ [])
    ∷ (codes "audit" ∷ codes "--" ∷ codes "f" ∷ [])
    ∷ []

abbrev wanted : List (Option Asked)
wanted =
    Some (edit (codes "f") 2)
    ∷ Some (edit (codes "f") 0)
    ∷ Some (edit (codes "f") 8)
    ∷ Some (edit (codes "f") 3)
    ∷ Some (edit (codes "f") 4)
    ∷ Some (edit (codes "f") 0)
    ∷ Some (edit (codes "f") 5)
    ∷ Some (edit (codes "f") 5)
    ∷ Some (edit (codes "f") 7)
    ∷ Some (edit (codes "f") 2)
    ∷ Some (edit (codes "f") 2)
    ∷ Some (render (codes "f"))
    ∷ Some (render (codes "f"))
    ∷ Some (info (codes "f") false)
    ∷ Some (info (codes "f") true)
    ∷ Some (info (codes "f") true)
    ∷ Some (make (codes "f") 7)
    ∷ Some (make (codes "f") 4294967295)
    ∷ Some (make (codes "f") 0)
    ∷ Some (edit (codes "f") 2)
    ∷ Some (edit (codes "f") 2)
    ∷ Some (edit (codes "") 2)
    ∷ Some (edit (codes "") 2)
    ∷ Some (edit (codes "a b") 2)
    ∷ Some (render (codes ""))
    ∷ Some (make (codes "9") 9)
    ∷ Some (edit (codes "9") 2)
    ∷ Some (pack (codes "f") false)
    ∷ Some (pack (codes "f") true)
    ∷ Some (pack (codes "f") true)
    ∷ Some (flatten (codes "f"))
    ∷ Some (view (codes "f") 1 16)
    ∷ Some (view (codes "f") 3 2)
    ∷ Some (audit (codes "f"))
    ∷ Some (audit (codes "f"))
    ∷ []

commands_by_shape : map asked_by_shape commands ≡ wanted
commands_by_shape = refl

commands_asked : map asked_in commands ≡ wanted
unfolding walked walk_fault bundle_met chars flags_fault defaults_fault
commands_asked = refl

-- ---- arguments that are none

abbrev others : List (List Argument)
others =
    ([])
    ∷ (codes "edit" ∷ [])
    ∷ (codes "edit" ∷ codes "f" ∷ codes "--workers" ∷ codes "9" ∷ [])
    ∷ (codes "edit" ∷ codes "f" ∷ codes "--workers=" ∷ [])
    ∷ (codes "edit" ∷ codes "f" ∷ codes "--workers" ∷ [])
    ∷ (codes "edit" ∷ codes "f" ∷ codes "--workers" ∷ codes "-1" ∷ [])
    ∷ (codes "edit" ∷ codes "f" ∷ codes "--workers=-1" ∷ [])
    ∷ (codes "edit" ∷ codes "f" ∷ codes "--workers" ∷ codes "3" ∷ codes "--workers" ∷ codes "3" ∷ [])
    ∷ (codes "edit" ∷ codes "f" ∷ codes "g" ∷ [])
    ∷ (codes "edit" ∷ codes "--" ∷ codes "-f" ∷ [])
    ∷ (codes "edit" ∷ codes "--" ∷ codes "f" ∷ codes "--workers" ∷ codes "2" ∷ [])
    ∷ (codes "edit" ∷ codes "-" ∷ [])
    ∷ (codes "edit" ∷ codes "-f" ∷ [])
    ∷ (codes "edit" ∷ codes "f" ∷ codes "-" ∷ [])
    ∷ (codes "edit" ∷ codes "--help" ∷ [])
    ∷ (codes "edit" ∷ codes "f" ∷ codes "--help" ∷ [])
    ∷ (codes "edit" ∷ codes "f" ∷ codes "-h" ∷ [])
    ∷ (codes "render" ∷ codes "f" ∷ codes "--workers" ∷ codes "2" ∷ [])
    ∷ (codes "render" ∷ [])
    ∷ (codes "render" ∷ codes "--" ∷ [])
    ∷ (codes "info" ∷ codes "--seed" ∷ codes "1" ∷ codes "f" ∷ [])
    ∷ (codes "info" ∷ codes "f" ∷ codes "f" ∷ [])
    ∷ (codes "info" ∷ codes "--all" ∷ [])
    ∷ (codes "info" ∷ codes "f" ∷ codes "--all" ∷ codes "--all" ∷ [])
    ∷ (codes "info" ∷ codes "f" ∷ codes "--all=true" ∷ [])
    ∷ (codes "info" ∷ codes "--" ∷ codes "f" ∷ codes "--all" ∷ [])
    ∷ (codes "info" ∷ codes "f" ∷ codes "--plan" ∷ [])
    ∷ (codes "render" ∷ codes "f" ∷ codes "--all" ∷ [])
    ∷ (codes "make" ∷ codes "f" ∷ [])
    ∷ (codes "make" ∷ codes "f" ∷ codes "--seed" ∷ codes "4294967296" ∷ [])
    ∷ (codes "make" ∷ codes "f" ∷ codes "--seed" ∷ codes "x" ∷ [])
    ∷ (codes "make" ∷ codes "f" ∷ codes "--seed" ∷ codes "1.5" ∷ [])
    ∷ (codes "make" ∷ codes "f" ∷ codes "--seed" ∷ codes "99999999999999999999" ∷ [])
    ∷ (codes "make" ∷ codes "f" ∷ codes "--seeds" ∷ codes "1" ∷ [])
    ∷ (codes "make" ∷ codes "f" ∷ codes "--see" ∷ codes "1" ∷ [])
    ∷ (codes "pack" ∷ [])
    ∷ (codes "pack" ∷ codes "f" ∷ codes "--plan" ∷ codes "--plan" ∷ [])
    ∷ (codes "pack" ∷ codes "f" ∷ codes "--plan=true" ∷ [])
    ∷ (codes "pack" ∷ codes "--plan" ∷ [])
    ∷ (codes "pack" ∷ codes "f" ∷ codes "--plans" ∷ [])
    ∷ (codes "pack" ∷ codes "--" ∷ codes "f" ∷ codes "--plan" ∷ [])
    ∷ (codes "flatten" ∷ [])
    ∷ (codes "flatten" ∷ codes "f" ∷ codes "--plan" ∷ [])
    ∷ (codes "flatten" ∷ codes "f" ∷ codes "g" ∷ [])
    ∷ (codes "view" ∷ codes "f" ∷ [])
    ∷ (codes "view" ∷ codes "f" ∷ codes "--cols" ∷ codes "1" ∷ [])
    ∷ (codes "view" ∷ codes "f" ∷ codes "--rows" ∷ codes "1" ∷ [])
    ∷ (codes "view" ∷ codes "--cols" ∷ codes "1" ∷ codes "--rows" ∷ codes "1" ∷ [])
    ∷ (codes "view" ∷ codes "f" ∷ codes "--cols" ∷ codes "0" ∷ codes "--rows" ∷ codes "1" ∷ [])
    ∷ (codes "view" ∷ codes "f" ∷ codes "--cols" ∷ codes "1" ∷ codes "--rows" ∷ codes "0" ∷ [])
    ∷ (codes "view" ∷ codes "f" ∷ codes "--cols" ∷ codes "17" ∷ codes "--rows" ∷ codes "1" ∷ [])
    ∷ (codes "view" ∷ codes "f" ∷ codes "--cols" ∷ codes "1" ∷ codes "--rows" ∷ codes "17" ∷ [])
    ∷ (codes "view" ∷ codes "f" ∷ codes "--cols" ∷ codes "--rows" ∷ codes "1" ∷ [])
    ∷ (codes "view" ∷ codes "f" ∷ codes "--cols=1" ∷ codes "--rows=1" ∷ codes "--cols=1" ∷ [])
    ∷ (codes "audit" ∷ [])
    ∷ (codes "audit" ∷ codes "f" ∷ codes "g" ∷ [])
    ∷ (codes "audit" ∷ codes "f" ∷ codes "--workers" ∷ codes "2" ∷ [])
    ∷ (codes "help" ∷ [])
    ∷ (codes "help" ∷ codes "edit" ∷ [])
    ∷ (codes "--help" ∷ [])
    ∷ (codes "--version" ∷ [])
    ∷ (codes "Edit" ∷ codes "f" ∷ [])
    ∷ (codes "edit" ∷ codes "--version" ∷ [])
    ∷ (codes "edit" ∷ codes "f" ∷ codes "--workers" ∷ codes "--" ∷ [])
    ∷ (codes "edit" ∷ codes "--workers=2=3" ∷ codes "f" ∷ [])
    ∷ (codes "edit" ∷ codes "f" ∷ codes "-w" ∷ codes "2" ∷ [])
    ∷ (codes "edit" ∷ codes "f" ∷ codes "--workers" ∷ codes "1e0" ∷ [])
    ∷ (codes "make" ∷ codes "--" ∷ codes "f" ∷ codes "--seed" ∷ codes "3" ∷ [])
    ∷ (codes "make" ∷ codes "f" ∷ codes "--seed" ∷ codes "18446744073709551616" ∷ [])
    ∷ (codes "edit" ∷ codes "f" ∷ codes "--workers=18446744073709551618" ∷ [])
    ∷ (codes "edit" ∷ codes "f" ∷ codes "--workers" ∷ codes "" ∷ [])
    ∷ (codes "make" ∷ codes "f" ∷ codes "--seed" ∷ codes "" ∷ [])
    ∷ (codes "" ∷ codes "" ∷ [])
    ∷ (codes "edit" ∷ codes "--workers=" ∷ codes "2" ∷ codes "f" ∷ [])
    ∷ (codes "render" ∷ codes "--help" ∷ codes "-x" ∷ codes "+1" ∷ [])
    ∷ (codes "edit" ∷ codes "--help" ∷ codes "--workers=3" ∷ codes "7" ∷ [])
    ∷ (codes "edit" ∷ codes "g" ∷ codes "9" ∷ [])
    ∷ (codes "info" ∷ codes "--" ∷ codes "--seed" ∷ [])
    ∷ (codes "edit" ∷ codes "--workers=3" ∷ codes "f" ∷ codes "-x" ∷ codes "--workers=3" ∷ [])
    ∷ (codes "info" ∷ codes "--workers" ∷ codes "+1" ∷ codes "--help" ∷ [])
    ∷ (codes "info" ∷ codes "--help" ∷ codes "--help" ∷ [])
    ∷ (codes "edit" ∷ codes "--seed=5" ∷ codes "--seed=5" ∷ [])
    ∷ (codes "info" ∷ codes "--workers" ∷ codes "f" ∷ [])
    ∷ (codes "edit" ∷ codes "--help" ∷ codes "--workers=3" ∷ [])
    ∷ (codes "make" ∷ codes "2" ∷ codes "9" ∷ [])
    ∷ (codes "make" ∷ codes "7" ∷ codes "7" ∷ codes "--workers=3" ∷ codes "--workers" ∷ [])
    ∷ (codes "make" ∷ codes "2" ∷ codes "f" ∷ codes "9" ∷ [])
    ∷ (codes "info" ∷ codes "--workers" ∷ codes "2" ∷ [])
    ∷ (codes "edit" ∷ codes "2" ∷ codes "+1" ∷ codes "--seed=5" ∷ [])
    ∷ (codes "edit" ∷ codes "7" ∷ codes "-x" ∷ codes "9" ∷ codes "g" ∷ [])
    ∷ (codes "render" ∷ codes "+1" ∷ codes "2" ∷ codes "-" ∷ [])
    ∷ (codes "render" ∷ codes "-" ∷ codes "-" ∷ [])
    ∷ (codes "make" ∷ codes "2" ∷ [])
    ∷ (codes "edit" ∷ codes "+1" ∷ codes "--" ∷ codes "f" ∷ [])
    ∷ (codes "info" ∷ codes "--" ∷ codes "--seed=5" ∷ codes "+1" ∷ [])
    ∷ (codes "edit" ∷ codes "f" ∷ codes "-x" ∷ codes "--workers" ∷ [])
    ∷ (codes "make" ∷ codes "--help" ∷ [])
    ∷ (codes "render" ∷ codes "g" ∷ codes "--seed=5" ∷ codes "-x" ∷ [])
    ∷ (codes "render" ∷ codes "f" ∷ codes "--" ∷ codes "g" ∷ [])
    ∷ (codes "make" ∷ codes "--seed" ∷ codes "--seed=5" ∷ codes "9" ∷ [])
    ∷ (codes "make" ∷ codes "2" ∷ codes "-x" ∷ codes "--seed" ∷ [])
    ∷ (codes "edit" ∷ codes "7" ∷ codes "9" ∷ codes "2" ∷ [])
    ∷ (codes "make" ∷ codes "7" ∷ [])
    ∷ (codes "make" ∷ codes "-" ∷ codes "--workers" ∷ codes "-x" ∷ [])
    ∷ (codes "edit" ∷ codes "--seed=5" ∷ [])
    ∷ (codes "info" ∷ codes "--workers=3" ∷ [])
    ∷ (codes "render" ∷ codes "-" ∷ codes "7" ∷ codes "--" ∷ [])
    ∷ (codes "make" ∷ codes "7" ∷ [])
    ∷ (codes "edit" ∷ codes "9" ∷ codes "+1" ∷ codes "--workers=3" ∷ [])
    ∷ (codes "make" ∷ codes "--workers" ∷ codes "7" ∷ codes "--help" ∷ codes "--" ∷ [])
    ∷ (codes "make" ∷ codes "+1" ∷ [])
    ∷ (codes "info" ∷ codes "--workers" ∷ codes "-" ∷ codes "--seed=5" ∷ [])
    ∷ []

others_by_shape : map asked_by_shape others ≡ map (λ arguments. None) others
others_by_shape = refl

others_ask_nothing : map asked_in others ≡ map (λ arguments. None) others
unfolding walked walk_fault bundle_met chars flags_fault defaults_fault
others_ask_nothing = refl

-- ---- ends

lines : map stop_line (usage ∷ source_fault ∷ bad_head ∷ bad_line 2 ∷ shelf_fault
    ∷ refused (record { kind = Truncated; at = 38; value = 0 }) ∷ flat_refused (TooMany 1023) ∷ [])
    ≡ (codes "usage" ++ 10 ∷ []) ∷ (codes "source fault" ++ 10 ∷ []) ∷ (codes "bad head" ++ 10 ∷ []) ∷ (codes "bad line 2" ++ 10 ∷ [])
    ∷ (codes "shelf fault" ++ 10 ∷ [])
    ∷ (codes "file refused 3 at 38" ++ 10 ∷ []) ∷ (codes "flatten refused 3" ++ 10 ∷ []) ∷ []
unfolding digits
lines = refl
