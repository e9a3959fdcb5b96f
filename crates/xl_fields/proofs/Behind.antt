-- What stood in a buffer stays in front of what is appended.
use Rattle.std.proofs.Common.{◌≡◌, ℕ, List, [], ◌++◌, length, take, drop, refl, sym, ap, ◌∙◌, append_assoc}
use Rattle.std.proofs.Common.{append-nil}
use Rattle.std.proofs.lemmas.List.{take_at, take-append-drop}
use Rattle.xl_fields.specs.Behind.{BeginsWith}

-- bytes were appended
pub begins_appended : (old more new : List ℕ) → new ≡ old ++ more → BeginsWith new old
begins_appended old more new is = ap (take (length old)) is ∙ take_at old more (length old) refl

pub begins_itself : (old new : List ℕ) → new ≡ old → BeginsWith new old
begins_itself old new is = begins_appended old [] new (is ∙ sym (append-nil old))

begins_is : (whole front : List ℕ) → BeginsWith whole front → whole ≡ front ++ drop (length front) whole
begins_is whole front begins = sym (take-append-drop (length front) whole) ∙ ap (λ xs. xs ++ drop (length front) whole) begins

pub begins_then : (old mid new : List ℕ) → BeginsWith mid old → BeginsWith new mid → BeginsWith new old
begins_then old mid new first second =
    begins_appended old (drop (length old) mid ++ drop (length mid) new) new
    (begins_is new mid second
    ∙ (ap (λ xs. xs ++ drop (length mid) new) (begins_is mid old first)
    ∙ append_assoc old (drop (length old) mid) (drop (length mid) new)))

-- bytes were appended, and then more
pub begins_after : (old more mid new : List ℕ) → mid ≡ old ++ more → BeginsWith new mid → BeginsWith new old
begins_after old more mid new is second = begins_then old mid new (begins_appended old more mid is) second
