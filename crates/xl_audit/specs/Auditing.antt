-- What an audit starts from.
use Rattle.std.specs.Prelude.{◌≡◌, ◌-◌, ◌<◌, true, false, List, [], ◌∷◌, ◌++◌, length, replicate, Option, Some, None, is_some, map}
use Rattle.std.specs.List.{list_all}
use Rattle.spec_document.specs.Document.{Document}
use Rattle.spec_filters.specs.declared.FilterState.{FilterState}
use Rattle.spec_history.specs.Calls.{IsCall}
use Rattle.spec_history.specs.Limited.{edits_of}
use Rattle.spec_script.specs.Script as lines
use Rattle.spec_script.specs.Script.{Line}
use Rattle.spec_tables.specs.Agrees.{AreThere}
use Rattle.spec_text.specs.declared.OrderWord.{OrderWord}
use Rattle.spec_text.specs.Text.{is_save_memory}
use Rattle.spec_audit.specs.Output.{Output}
use Rattle.spec_audit.specs.Walk.{Start, printed_at}

-- the filters of a chest
abbrev pub filters_in : (chest : List (Option FilterState)) → List FilterState
filters_in [] = []
filters_in (None ∷ slots) = filters_in slots
filters_in (Some filter ∷ slots) = filter ∷ filters_in slots

-- no filter of the chest was forgotten
abbrev pub IsFull : (chest : List (Option FilterState)) → Type 0
IsFull chest = list_all is_some chest ≡ true

-- a call is within its type, and its filters are in the chest
abbrev pub FitsChest : (chest : List (Option FilterState)) → Line → Type 0
FitsChest chest (lines.call c) = IsCall c × AreThere chest (edits_of c)
FitsChest chest lines.save = Unit {0}
FitsChest chest (lines.forget slot) = Unit {0}

-- the chests of the sessions are full, and have the filters that a run starts with
abbrev pub start_of : Document → (scripts : List (List Line)) → (chests : List (List (Option FilterState))) → Start
start_of base scripts chests = record { base = base; scripts = scripts; chests = map filters_in chests }

-- each filter in a slot of its session's chest
abbrev pub full_chests : (filters : List (List FilterState)) → List (List (Option FilterState))
full_chests filters = map (λ fs. map (λ s. Some s) fs) filters

-- chests for eight sessions, those behind the given ones without slots
abbrev pub padded : (chests : List (List (Option FilterState))) → List (List (Option FilterState))
padded chests = chests ++ replicate (8 - length chests) []

-- no printed reply is one that has no text
abbrev pub ArePrintable : Output → Type 0
ArePrintable o = (w : OrderWord) → w.session < 8 → is_save_memory (printed_at o.replies w).reply ≡ false
