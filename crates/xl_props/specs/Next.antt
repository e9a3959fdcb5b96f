-- What code answers that reads one property of a list.
use Rattle.std.specs.Prelude.{◌≡◌, ℕ, suc, ◌+◌, List, [], ◌∷◌, length, Option, Some, None, Result, Ok, Err}
use Rattle.std.specs.Borrow.{Bor}
use Rattle.spec_document.specs.declared.Owner.{Owner}
use Rattle.spec_fields.specs.declared.ReadRefused.{ReadRefused}
use Rattle.spec_fields.specs.Reading.{Read, ◌>>=◌}
use Rattle.spec_props.specs.Meaning.{Property}
use Rattle.spec_props.specs.Reading.{Properties, property_at, kept_after, list_at}
use Rattle.xl_props.specs.Props.{property}

-- the payload of the property that reading gives, or the first fault
abbrev pub IsPropertyAt : (file : List ℕ) → Owner → (kind at : ℕ) → Result (Bor (List ℕ)) ReadRefused → Type 0
IsPropertyAt file owner kind at (Ok payload) = property_at file owner kind at ≡ Ok (property at kind payload.now)
IsPropertyAt file owner kind at (Err e) = property_at file owner kind at ≡ Err e

-- a list with a property in front
abbrev pub with_first : Property → Read Properties → Read Properties
with_first p read = read >>= (λ rest. Ok (record { list = p ∷ rest.list; end = rest.end }))

-- Reading a list goes on behind a property, ends, or meets its first fault. So many more may be kept.
abbrev pub GoesOn : (kept : ℕ) → (file : List ℕ) → Owner → (at : ℕ) → Result (Option (ℕ × Bor (List ℕ))) ReadRefused → Type 0
GoesOn kept file owner at (Ok (Some p)) =
    (room : ℕ) → list_at (suc room) kept file owner at
    ≡ with_first (property at p.0 p.1.now) (list_at room (kept_after owner p.0 kept) file owner (at + 8 + length p.1.now))
GoesOn kept file owner at (Ok None) = (room : ℕ) → list_at (suc room) kept file owner at ≡ Ok (record { list = []; end = at })
GoesOn kept file owner at (Err e) = (room : ℕ) → list_at (suc room) kept file owner at ≡ Err e

-- behind as many properties as a list has at most
abbrev pub EndsFull : (file : List ℕ) → (at : ℕ) → Result (Unit {0}) ReadRefused → Type 0
EndsFull file at (Ok done) = (kept : ℕ) (owner : Owner) → list_at 0 kept file owner at ≡ Ok (record { list = []; end = at })
EndsFull file at (Err e) = (kept : ℕ) (owner : Owner) → list_at 0 kept file owner at ≡ Err e
