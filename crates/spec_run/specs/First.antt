-- Scripts of session 0 alone.
use Rattle.std.specs.Prelude.{◌≡◌, drop, List, []}
use Rattle.std.specs.List.{AllByRecursion}
use Rattle.spec_script.specs.Script.{Line}

-- all lines are of session 0
abbrev pub AreOfFirst : List (List Line) → Type 0
AreOfFirst lists = AllByRecursion (λ lines. lines ≡ []) (drop 1 lists)
