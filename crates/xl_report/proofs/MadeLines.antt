-- The lines of the code that are made from a seed.
use Rattle.std.proofs.Common.{◌≡◌, List, [], ◌∷◌, ◌++◌, ap, ◌∙◌}
use Rattle.std.proofs.lemmas.List.{map-append}
use Rattle.std.specs.Prelude.{None}
use Rattle.spec_edit.specs.Edit as edits
use Rattle.spec_history.specs.Machine as machine
use Rattle.spec_script.specs.Script as script
use Rattle.xl_calls.specs.declared.call.Call.TheVariants as calls
use Rattle.xl_calls.specs.declared.edit.Edit.{Edit}
use Rattle.xl_calls.specs.Edits.{edit_of}
use Rattle.xl_script.specs.declared.script.Line.{Line}
use Rattle.xl_script.specs.declared.script.Line.TheVariants as lines
use Rattle.xl_script.specs.Lines.{line_of, lines_of, lists_of}

-- a group of one edit without a guard
pub one_edit : (old es : List Edit) (e : Edit) (edit : edits.Edit) → old ≡ [] → es ≡ old ++ e ∷ [] → edit_of e ≡ edit
    → line_of (lines.Call (calls.Edit (record { guard = None; edits = es }))) ≡ script.call (machine.edit None (edit ∷ []))
one_edit old es e edit none is edit_is =
    ap (λ (es : List Edit). line_of (lines.Call (calls.Edit (record { guard = None; edits = es })))) (is
    ∙ ap (λ (es : List Edit). es ++ e ∷ []) none)
    ∙ ap (λ (edit : edits.Edit). script.call (machine.edit None (edit ∷ []))) edit_is

pub line_more : (old new : List Line) (line : Line) → new ≡ old ++ line ∷ [] → lines_of new ≡ lines_of old ++ line_of line ∷ []
line_more old new line is = ap lines_of is ∙ map-append line_of old (line ∷ [])

pub list_more : (old new : List (List Line)) (list : List Line) → new ≡ old ++ list ∷ []
    → lists_of new ≡ lists_of old ++ lines_of list ∷ []
list_more old new list is = ap lists_of is ∙ map-append lines_of old (list ∷ [])
