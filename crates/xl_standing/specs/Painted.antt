-- Why an edit is not painted.
use Rattle.std.specs.Prelude.{◌≡◌, Some}
use Rattle.spec_document.specs.Document.{Document}
use Rattle.spec_edit.specs.Edit.{Edit}
use Rattle.spec_edit.specs.Refusal.{refusal}
use Rattle.xl_standing.specs.declared.painting.NotPainted.{NotPainted}
use Rattle.xl_standing.specs.declared.painting.NotPainted.TheVariants.{Other, Refused}

-- where the edit is refused, this is why
abbrev pub IsWhy : Document → Edit → NotPainted → Type 0
IsWhy d edit Other = Unit {0}
IsWhy d edit (Refused cause) = refusal d edit ≡ Some cause
