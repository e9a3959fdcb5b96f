-- How a command ends: its status, and the line that tells of a stop.
use Rattle.std.specs.Prelude.{ℕ, List, [], ◌∷◌, ◌++◌, codes, decimal}
use Rattle.spec_fields.specs.declared.ReadRefused.{ReadRefused}
use Rattle.spec_fields.specs.Kinds.{kind_number}
use Rattle.spec_flat.specs.declared.FlatRefused.{FlatRefused}
use Rattle.spec_flat.specs.Numbers.{flat_number}

-- why a command stops before its work is done; the shelf's fault is one of reading, of the one save of a command, or of the first of what is made
pub data Stop : Type 0 where
  usage : Stop
  source_fault : Stop
  bad_head : Stop
  bad_line : (number : ℕ) → Stop
  shelf_fault : Stop
  refused : ReadRefused → Stop
  flat_refused : FlatRefused → Stop

abbrev pub stop_status : Stop → ℕ
stop_status usage = 2
stop_status source_fault = 5
stop_status bad_head = 3
stop_status (bad_line number) = 3
stop_status shelf_fault = 6
stop_status (refused why) = 4
stop_status (flat_refused why) = 9

abbrev pub stop_text : Stop → List ℕ
stop_text usage = codes "usage"
stop_text source_fault = codes "source fault"
stop_text bad_head = codes "bad head"
stop_text (bad_line number) = codes "bad line " ++ decimal number
stop_text shelf_fault = codes "shelf fault"
stop_text (refused why) = codes "file refused " ++ (decimal (kind_number why.kind) ++ (codes " at " ++ decimal why.at))
stop_text (flat_refused why) = codes "flatten refused " ++ decimal (flat_number why)

abbrev pub stop_line : Stop → List ℕ
stop_line stop = stop_text stop ++ 10 ∷ []
