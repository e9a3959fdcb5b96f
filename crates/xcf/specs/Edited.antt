-- What comes of a group of edits.
use Rattle.std.specs.Prelude.{◌≡◌, ℕ, ◌+◌, ◌^◌, ◌<◌, List, [], Result, Ok, Err}
use Rattle.spec_edit.specs.Apply.{At, apply, apply_group}
use Rattle.spec_edit.specs.Edit.{Edit}
use Rattle.spec_history.specs.declared.TheConstants.{MAX_EDITS}
use Rattle.xcf.specs.Plain.{IsPlainGroup, IsChecked}
use Rattle.xcf.specs.declared.errors.NotEdited.{NotEdited}
use Rattle.xcf.specs.declared.errors.NotEdited.TheVariants.{Memory, NotGroup, NoIds, Refused}
use Rattle.xcf.specs.declared.errors.NotEdited.TheVariants.{NothingToUndo, NothingToRedo, HistoryFull, Moved, NotTop}

-- more ids are left than a group may take
abbrev pub HasIds : At → Type 0
HasIds image = image.next + MAX_EDITS + 1 < 2 ^ 32

-- The whole group is made. Or the image is as before: the first edit that is refused is named, or what is wrong with the group, or
-- no more ids are left than a group may take, or memory ran out.
abbrev pub Edits : (old new : At) → List Edit → Result (Unit {0}) NotEdited → Type 0
Edits old new edits (Ok done) = IsPlainGroup edits × HasIds old × (apply_group old edits [] ≡ Ok new)
Edits old new edits (Err (Refused index cause)) =
    IsPlainGroup edits × HasIds old × (apply_group old edits [] ≡ Err (record { index = index; cause = cause })) × (new ≡ old)
Edits old new edits (Err (NotGroup flaw)) = IsChecked edits (Err flaw) × (new ≡ old)
Edits old new edits (Err NoIds) = IsPlainGroup edits × (HasIds old → ⊥) × (new ≡ old)
Edits old new edits (Err Memory) = new ≡ old
Edits old new edits (Err NothingToUndo) = ⊥
Edits old new edits (Err NothingToRedo) = ⊥
Edits old new edits (Err HistoryFull) = ⊥
Edits old new edits (Err (Moved now)) = ⊥
Edits old new edits (Err (NotTop top)) = ⊥

-- the same of one edit that takes a table
abbrev pub EditsBy : (table : List ℕ) → (old new : At) → Edit → Result (Unit {0}) NotEdited → Type 0
EditsBy table old new edit (Ok done) = apply old edit table ≡ Ok new
EditsBy table old new edit (Err (Refused index cause)) = (index ≡ 0) × (apply old edit table ≡ Err cause) × (new ≡ old)
EditsBy table old new edit (Err (NotGroup flaw)) = ⊥
EditsBy table old new edit (Err NoIds) = ⊥
EditsBy table old new edit (Err Memory) = new ≡ old
EditsBy table old new edit (Err NothingToUndo) = ⊥
EditsBy table old new edit (Err NothingToRedo) = ⊥
EditsBy table old new edit (Err HistoryFull) = ⊥
EditsBy table old new edit (Err (Moved now)) = ⊥
EditsBy table old new edit (Err (NotTop top)) = ⊥
