-- Whether a group of edits is accepted, and how many tables it takes.
use Rattle.std.specs.Prelude.{ℕ, ◌+◌, if◌then◌else◌, List, [], ◌∷◌, Option, Some, None, Result, Ok, Err}
use Rattle.spec_edit.specs.Edit.{Edit}
use Rattle.spec_edit.specs.Apply.{At, Refused, is_filter}

-- the edit of a group that is refused, if any, and why
abbrev pub refused_in : Result At Refused → Option Refused
refused_in (Ok new) = None
refused_in (Err refused) = Some refused

-- how many of these edits are filters
abbrev pub filter_count : List Edit → ℕ
filter_count [] = 0
filter_count (edit ∷ edits) = (if is_filter edit then 1 else 0) + filter_count edits
