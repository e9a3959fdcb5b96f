-- The arguments of the command line, each a list of bytes, and the commands that they may ask for.
use Rattle.std.specs.Prelude.{ℕ, Bool, List}

abbrev pub Argument : Type 0
Argument = List ℕ

-- A command with the name of its file: how many workers an edit has, whether all is told of a file, the seed of what is made, whether
-- the plans of what is packed are told, and how many columns and rows of tiles a window has.
pub data Asked : Type 0 where
  edit : (name : Argument) (workers : ℕ) → Asked
  render : (name : Argument) → Asked
  info : (name : Argument) (with_all : Bool) → Asked
  make : (name : Argument) (seed : ℕ) → Asked
  pack : (name : Argument) (with_plans : Bool) → Asked
  flatten : (name : Argument) → Asked
  view : (name : Argument) (cols rows : ℕ) → Asked
  audit : (name : Argument) → Asked

abbrev pub name_of : Asked → Argument
name_of (edit name workers) = name
name_of (render name) = name
name_of (info name with_all) = name
name_of (make name seed) = name
name_of (pack name with_plans) = name
name_of (flatten name) = name
name_of (view name cols rows) = name
name_of (audit name) = name
