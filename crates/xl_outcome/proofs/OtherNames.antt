-- Names other than that of the command's file stay, whatever a command comes to.
use Rattle.std.proofs.Common.{◌≡◌, inl, inr, ℕ, List, [], Some, None, ap, sym, subst}
use Rattle.std.specs.Prelude.{Option, unwrap_or, Result, Ok, Err}
use Rattle.spec_command.specs.Arguments.{Asked, edit, render, info, make, pack, flatten, view, audit, name_of}
use Rattle.spec_document.specs.Document.{Document}
use Rattle.spec_history.specs.History.{Entry}
use Rattle.spec_saves.specs.Shelf.{file_name, ShelfIsRight, DiskIsRight}
use Rattle.spec_world.specs.declared.SaveEnd.{SaveEnd}
use Rattle.spec_world.specs.declared.SaveEnd.TheVariants.{Done, Fault, Memory as Starved}
use Rattle.xl_ports.specs.Disk.{Disk, Between, OthersStay, StaysThrough, IsQuiet}
use Rattle.xl_ports.specs.State.{ShelfState}
use Rattle.xl_ports.proofs.Moments.{weaker, one_then, others_still, others_then, quiet_others, quiet_through, still}
use Rattle.xl_save.specs.Save.{SavesOnly, HasSaved}
use Rattle.xl_save.proofs.Others.{others_stay}
use Rattle.xl_snapshot.specs.Saving.{Puts}
use Rattle.xl_outcome.specs.Endings.{Ending, well, unsaved, rejected, in_part}
use Rattle.xl_outcome.specs.Making.{IsMadeHistory}
use Rattle.xl_outcome.specs.Outcome.{Given, ComesTo, FailsAtShelf, IsOutput, IsUntouched, MayHaveSaved}
use Rattle.xl_outcome.specs.Outcome.{opened, OtherNamesStay}
use Rattle.xl_outcome.specs.declared.stopped.Stopped.{Stopped}
use Rattle.xl_outcome.specs.declared.stopped.Stopped.TheVariants.{SourceFault, BadHead, BadLine, ShelfFault, Refused}
use Rattle.xl_outcome.specs.declared.stopped.Stopped.TheVariants.{NotFlattened, SaveFault, Rejected, SinkFault, Memory}

-- every name but this one stays
abbrev pub Others : (name : List ℕ) → (old new : ShelfState) → Type 0
Others name old new = Between old.disk new.disk (OthersStay name)

-- ---- by what was saved

pub others_untouched : (name : List ℕ) (old new : ShelfState) → IsUntouched old new → Others name old new
others_untouched name old new same =
    weaker IsQuiet (OthersStay name) (λ a b quiet. quiet_others a b name quiet) old.disk new.disk same.quiet

others_put : (how : SaveEnd) (d : Document) (name : List ℕ) (before after : Option Disk) → Puts how d name before after
    → Between before after (OthersStay name)
others_put Done d name before after puts =
    weaker (λ b a. SavesOnly name puts.0 b a × HasSaved name puts.0 a) (OthersStay name)
    (λ b a saved. others_stay name puts.0 b a saved.0) before after puts.2
others_put Fault d name before after puts =
    weaker (SavesOnly name puts.0) (OthersStay name) (λ b a saved. others_stay name puts.0 b a saved) before after puts.2
others_put Starved d name before after puts =
    subst (λ (disk : Option Disk). Between before disk (OthersStay name)) (sym puts) (alone before) where
      alone : (disk : Option Disk) → Between disk disk (OthersStay name)
      alone None = tt
      alone (Some a) = others_still a name

pub others_right : (opening now : ShelfState) (base : Document) (es : List Entry) → ShelfIsRight opening base es now
    → Others (file_name opening) opening now
others_right opening now base es right =
    weaker (DiskIsRight (file_name opening) base es) (OthersStay (file_name opening)) (λ a b disk. disk.elsewhere)
    opening.disk now.disk right.contents

others_made : (opening now : ShelfState) (d : Document) (es : List Entry) → IsMadeHistory opening now d es
    → Others (file_name opening) opening now
others_made opening now d es made =
    let name : List ℕ = file_name opening in
    let same : file_name made.first ≡ name = ap (λ (o : Option (List ℕ)). unwrap_or o []) made.saved.selected in
    let then : Others name made.first now =
    subst (λ (n : List ℕ). Others n made.first now) same (others_right made.first now d es made.shelf) in
    one_then (OthersStay name) (OthersStay name) (OthersStay name) (λ a b c. others_then a b c name)
    opening.disk made.first.disk now.disk (others_put Done d name opening.disk made.first.disk made.saved.contents) then

-- ---- by what a command comes to

others_output : (given : Given) (old new : ShelfState) (command : Asked) (ending : Ending) (out : List ℕ)
    → IsOutput given old new command ending out → Others (name_of command) old new
others_output given old new (render name) ending out is = others_untouched name old new is.1
others_output given old new (info name with_all) ending out is = others_untouched name old new is.1
others_output given old new (make name seed) ending out is = others_made (opened old new name) new _ _ is.history
others_output given old new (edit name workers) ending out is = others_right (opened old new name) new _ _ is.history.shelf
others_output given old new (pack name with_plans) ending out is =
    weaker (SavesOnly name is.0.saved.file) (OthersStay name) (λ b a saved. others_stay name is.0.saved.file b a saved)
    old.disk new.disk is.0.saved.moments
others_output given old new (flatten name) ending out is = others_put Done _ name old.disk new.disk is.0.flat.saved.contents
others_output given old new (view name cols rows) ending out is = others_untouched name old new is.1
others_output given old new (audit name) ending out is = others_untouched name old new is.1

others_failed : (old new : ShelfState) (command : Asked) → FailsAtShelf old new command → Others (name_of command) old new
others_failed old new (render name) same = others_untouched name old new same
others_failed old new (info name with_all) same = others_untouched name old new same
others_failed old new (make name seed) (inl same) = others_untouched name old new same
others_failed old new (make name seed) (inr saved) = others_put Fault _ name old.disk new.disk saved.contents
others_failed old new (edit name workers) same = others_untouched name old new same
others_failed old new (pack name with_plans) (inl same) = others_untouched name old new same
others_failed old new (pack name with_plans) (inr packed) =
    weaker (SavesOnly name packed.saved.file) (OthersStay name) (λ b a saved. others_stay name packed.saved.file b a saved)
    old.disk new.disk packed.saved.moments
others_failed old new (flatten name) (inl same) = others_untouched name old new same
others_failed old new (flatten name) (inr flat) = others_put Fault _ name old.disk new.disk flat.saved.contents
others_failed old new (view name cols rows) same = others_untouched name old new same
others_failed old new (audit name) same = others_untouched name old new same

others_saved : (given : Given) (old new : ShelfState) (command : Asked) → MayHaveSaved given old new command → Others (name_of command) old new
others_saved given old new (render name) same = others_untouched name old new same
others_saved given old new (info name with_all) same = others_untouched name old new same
others_saved given old new (make name seed) (inl same) = others_untouched name old new same
others_saved given old new (make name seed) (inr made) = others_made (opened old new name) new _ _ made.history
others_saved given old new (edit name workers) (inl same) = others_untouched name old new same
others_saved given old new (edit name workers) (inr edited) = others_right (opened old new name) new _ _ edited.history.shelf
others_saved given old new (pack name with_plans) same = others_untouched name old new same
others_saved given old new (flatten name) same = others_untouched name old new same
others_saved given old new (view name cols rows) same = others_untouched name old new same
others_saved given old new (audit name) same = others_untouched name old new same

others_come : {K : Type 0} (held : K → Option (List ℕ)) (faults : K → ℕ) (given : Given) (old new : ShelfState) (command : Asked)
    (before after : K) (result : Result (Unit {0}) Stopped) → ComesTo held faults given old new command before after result
    → Others (name_of command) old new
others_come held faults given old new command before after (Ok x) comes =
    others_output given old new command well comes.0 comes.1
others_come held faults given old new command before after (Err SaveFault) comes =
    others_output given old new command unsaved comes.0 comes.1
others_come held faults given old new command before after (Err SinkFault) comes =
    others_output given old new command in_part comes.0 comes.1
others_come held faults given old new command before after (Err Memory) comes = others_saved given old new command comes.1
others_come held faults given old new command before after (Err SourceFault) comes =
    others_untouched (name_of command) old new comes.1
others_come held faults given old new command before after (Err BadHead) comes =
    others_untouched (name_of command) old new comes.1
others_come held faults given old new command before after (Err (BadLine bad)) comes =
    others_untouched (name_of command) old new comes.1
others_come held faults given old new command before after (Err ShelfFault) comes = others_failed old new command comes.1
others_come held faults given old new command before after (Err (Refused why)) comes =
    others_untouched (name_of command) old new comes.1
others_come held faults given old new command before after (Err (NotFlattened why)) comes =
    others_untouched (name_of command) old new comes.1
others_come held faults given old new command before after (Err (Rejected why)) comes =
    others_output given old new command rejected comes.0 comes.1.0

-- ---- by the words

pub other_of : (name other : List ℕ) (old new : Option Disk) → (other ≡ name → ⊥) → Between old new (OthersStay name)
    → Between old new (λ before after. StaysThrough before after other)
other_of name other old new not others =
    weaker (OthersStay name) (λ before after. StaysThrough before after other) (λ a b stay. stay other not) old new others

pub names_stay : {K : Type 0} (held : K → Option (List ℕ)) (faults : K → ℕ) (given : Given) (old new : ShelfState) (command : Asked)
    (before after : K) (result : Result (Unit {0}) Stopped) → ComesTo held faults given old new command before after result
    → OtherNamesStay old new (Some command)
names_stay held faults given old new command before after result comes = λ other not.
    other_of (name_of command) other old.disk new.disk (λ same. not (ap Some (sym same)))
    (others_come held faults given old new command before after result comes)

-- nothing was called
pub all_stay : (s : ShelfState) (asked : Option Asked) → OtherNamesStay s s asked
all_stay s asked = λ other not.
    weaker IsQuiet (λ before after. StaysThrough before after other) (λ a b quiet. quiet_through a b other quiet) s.disk s.disk
    (still s.disk)
