-- A script that is read up to one byte more than it may have is read as a whole.
use Rattle.std.proofs.Common.{◌≡◌, inl, inr, ℕ, ◌+◌, ◌≤◌, false, List, [], ◌++◌, length, take, Option, Some}
use Rattle.std.proofs.Common.{None, Err, refl, sym, subst, ◌∙◌, ap, arith, length-append, ◌⊎◌}
use Rattle.std.specs.Prelude.{IfSome, Result, Vec, map, nat_le}
use Rattle.std.specs.declared.alloc.Global.{Global}
use Rattle.std.proofs.lemmas.Bool.Decides.{nat_tests}
use Rattle.std.proofs.lemmas.List.{append-nil, take-append-le}
use Rattle.spec_filters.specs.declared.FilterState.{FilterState}
use Rattle.spec_script.specs.declared.TheConstants.{MAX_SCRIPT_BYTES}
use Rattle.spec_script.specs.Script.{Line, script, line_of_byte}
use Rattle.spec_script.specs.Fits.{FitsFilters}
use Rattle.xl_ports.specs.Source.{led_by, IsEnded}
use Rattle.xl_filters.specs.Chests.{states_of}

abbrev refused_at : (number : ℕ) → Result (List (List Line)) ℕ
refused_at number = Err number

-- a text that is too long is refused, whatever is in it
too_long : (text chests : List ℕ) → MAX_SCRIPT_BYTES + 1 ≤ length text
    → script text chests ≡ Err (line_of_byte text MAX_SCRIPT_BYTES)
too_long text chests long =
    let test : nat_le (length text) MAX_SCRIPT_BYTES ≡ false = grind (arith, nat_tests) in
    rw test refl

-- the line is that of the bytes so far
pub same_line : (front more : List ℕ) → length front ≡ MAX_SCRIPT_BYTES + 1
    → line_of_byte front MAX_SCRIPT_BYTES ≡ line_of_byte (front ++ more) MAX_SCRIPT_BYTES
same_line front more full =
    let cut : take MAX_SCRIPT_BYTES (front ++ more) ≡ take MAX_SCRIPT_BYTES front =
    take-append-le MAX_SCRIPT_BYTES front more (omega arith) in
    rw cut refl

front_reads : (front more chests : List ℕ) → (length front ≡ MAX_SCRIPT_BYTES + 1) ⊎ (more ≡ [])
    → script front chests ≡ script (front ++ more) chests
front_reads front more chests (inl full) =
    too_long front chests (omega arith)
    ∙ ap refused_at (same_line front more full)
    ∙ sym (too_long (front ++ more) chests (omega (arith, length-append front more)))
front_reads front more chests (inr ended) = rw (ended, append-nil front) refl

-- what is read of a source tells what all that it had left comes to
pub read_of_source : (before after : Option (List ℕ)) (front chests : List ℕ) (r : Result (List (List Line)) ℕ)
    → before ≡ led_by front after
    → (length front ≡ MAX_SCRIPT_BYTES + 1) ⊎ IsEnded after → script front chests ≡ r → IfSome before (λ text. script text chests ≡ r)
read_of_source before None front chests r led how reads = rw led tt
read_of_source before (Some more) front chests r led how reads = rw led (sym (front_reads front more chests how) ∙ reads)

pub same_fits : (counts chests : List ℕ) (lists : List (List Line)) → counts ≡ chests → FitsFilters counts lists
    → FitsFilters chests lists
same_fits counts chests lists same fits = subst (λ (ns : List ℕ). FitsFilters ns lists) same fits

-- what is read of a source tells what all that it had left comes to, with the same numbers of filters
pub read_with : (before after : Option (List ℕ)) (front text counts chests : List ℕ) (r : Result (List (List Line)) ℕ)
    → before ≡ led_by front after
    → (length front ≡ MAX_SCRIPT_BYTES + 1) ⊎ IsEnded after → text ≡ front → counts ≡ chests → script text counts ≡ r
    → IfSome before (λ all. script all chests ≡ r)
read_with before after front text counts chests r led how one two reads =
    subst (λ (ns : List ℕ). IfSome before (λ all. script all ns ≡ r)) two
    (read_of_source before after front counts r led how (ap (λ (t : List ℕ). script t counts) (sym one) ∙ reads))

pub counts_same : {B : Type 0} (state : B → FilterState) (some all : List (Vec B Global)) (counts : List ℕ) → some ≡ all
    → counts ≡ map length (states_of state some) → counts ≡ map length (states_of state all)
counts_same {B} state some all counts same are =
    are ∙ ap (λ (boxes : List (Vec B Global)). map length (states_of state boxes)) same
