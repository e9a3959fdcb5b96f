-- Why a talk has come to its end, and what stands behind it.
use Rattle.std.specs.Prelude.{◌≡◌, ◌⊎◌, ◌<◌, ◌≤◌, ℕ, List, [], ◌∷◌, ◌++◌, ◌+◌, ◌^◌, length, map, take, Option, None, IfSome, codes}
use Rattle.spec_filters.specs.declared.FilterState.{FilterState}
use Rattle.spec_history.specs.History.{Entry}
use Rattle.spec_script.specs.Words.{lines_of}
use Rattle.spec_script.specs.declared.TheConstants.{MAX_SCRIPT_BYTES}
use Rattle.spec_serve.specs.Hearing.{start_hearing, hear}
use Rattle.spec_serve.specs.Said.{Said, entries_of}
use Rattle.spec_serve.specs.Talk.{IsTurn}
use Rattle.spec_text.specs.Printed.{spaced, order_text}
use Rattle.xl_lines.specs.Lines.{newline_in}
use Rattle.xl_serve.specs.Standing.{heard_from}
use Rattle.xl_serve.specs.declared.ends.TalkEnd.{TalkEnd}
use Rattle.xl_serve.specs.declared.ends.TalkEnd.TheVariants.{Ended, TooLong, SourceFault, SinkFault, Memory, NotBegun}
use mathlib.Core.List.{IsPrefix}

-- The first lines of what was left, where it is told, are these.
abbrev pub AreFirst : (lines : List (List ℕ)) → (left : Option (List ℕ)) → Type 0
AreFirst lines left = IfSome left (λ bytes. IsPrefix lines (lines_of bytes))

-- they are all of them
abbrev pub AreAll : (lines : List (List ℕ)) → (left : Option (List ℕ)) → Type 0
AreAll lines left = IfSome left (λ bytes. lines_of bytes ≡ lines)

-- behind these lines stands one that is longer than a line may be, or they are as many as a talk may have
abbrev pub IsTooLong : (lines : List (List ℕ)) → (left : Option (List ℕ)) → Type 0
IsTooLong lines left = (2 ^ 32 ≤ length lines + 2) ⊎ IfSome left (λ bytes. (unread : List ℕ)
    × (lines_of bytes ≡ lines ++ lines_of unread)
    × (MAX_SCRIPT_BYTES < length unread)
    × (newline_in (take (MAX_SCRIPT_BYTES + 1) unread) ≡ None))

-- the next line, within which memory ran out: nothing was entered for it, or just what answers it
abbrev pub IsCutTalk : (filters : List (List FilterState)) → (lines : List (List ℕ)) → (left : Option (List ℕ)) → (said es : List Entry)
    → Type 0
IsCutTalk filters lines left said es =
    (es ≡ said)
    ⊎ ((line : List ℕ) × (turn : List Said) × AreFirst (lines ++ line ∷ []) left
    × IsTurn (1 + length lines) (hear (1 + length lines) line (heard_from 1 (start_hearing (map length filters)) lines)).asks turn
    × (es ≡ said ++ entries_of turn))

-- why no further line was taken
abbrev pub StopsBy : (lines : List (List ℕ)) → (left : Option (List ℕ)) → TalkEnd → Type 0
StopsBy lines left Ended = AreAll lines left
StopsBy lines left (TooLong number) = (number ≡ length lines + 1) × IsTooLong lines left
StopsBy lines left SourceFault = Unit {0}
StopsBy lines left SinkFault = Unit {0}
StopsBy lines left Memory = Unit {0}
StopsBy lines left NotBegun = lines ≡ []

-- the entries of what was said are all that there are, but where memory ran out within a line
abbrev pub AreSaidOf : (filters : List (List FilterState)) → (lines : List (List ℕ)) → (left : Option (List ℕ)) → (said es : List Entry)
    → TalkEnd → Type 0
AreSaidOf filters lines left said es Ended = es ≡ said
AreSaidOf filters lines left said es (TooLong number) = es ≡ said
AreSaidOf filters lines left said es SourceFault = es ≡ said
AreSaidOf filters lines left said es SinkFault = es ≡ said
AreSaidOf filters lines left said es Memory = IsCutTalk filters lines left said es
AreSaidOf filters lines left said es NotBegun = es ≡ said

-- what stands behind what was said
abbrev pub closing : (es : List Entry) → TalkEnd → List ℕ
closing es Ended = order_text es
closing es (TooLong number) = codes "bad line" ++ spaced number ++ 10 ∷ []
closing es SourceFault = codes "source fault" ++ 10 ∷ []
closing es SinkFault = []
closing es Memory = []
closing es NotBegun = []
