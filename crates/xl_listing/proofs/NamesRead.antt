-- The names in a payload, of which some are read and some are left.
use Rattle.std.proofs.Common.{◌≡◌, ℕ, suc, ◌==◌, List, [], ◌∷◌, ◌++◌, true, false, length, refl, sym, ap, ◌∙◌}
use Rattle.std.proofs.Common.{append_assoc, append-nil, Ok, Err}
use Rattle.std.specs.Result.{result_unwrap_or}
use Rattle.spec_fields.specs.declared.ReadRefused.{ReadRefused}
use Rattle.spec_fields.specs.Field.{Text}
use Rattle.spec_fields.specs.Reading.{Read, ◌>>=◌}
use Rattle.spec_listing.specs.Parasites.{names_at, parasite_at}

-- these names, and behind them those that are read
abbrev pub with_front : List (List ℕ) → Read (List (List ℕ)) → Read (List (List ℕ))
with_front front (Ok names) = Ok (front ++ names)
with_front front (Err fault) = Err fault

pub at_end : (front : List (List ℕ)) (all : Read (List (List ℕ))) (room left : ℕ) (payload : List ℕ) (at : ℕ)
    → room ≡ suc left → (at == length payload) ≡ true → with_front front (names_at room payload at) ≡ all
    → front ≡ result_unwrap_or all []
unfolding names_at
at_end front all room left payload at more end is =
    let here : names_at room payload at ≡ Ok [] = rw (more, end) refl in
    let whole : Ok front ≡ all = ap Ok (sym (append-nil front)) ∙ (ap (with_front front) (sym here) ∙ is) in
    ap (λ read. result_unwrap_or read []) whole

pub refused : (front : List (List ℕ)) (all : Read (List (List ℕ))) (room left : ℕ) (payload : List ℕ) (at : ℕ) (fault : ReadRefused)
    → room ≡ suc left → (at == length payload) ≡ false → parasite_at payload at ≡ Err fault
    → with_front front (names_at room payload at) ≡ all → [] ≡ result_unwrap_or all []
unfolding names_at
refused front all room left payload at fault more end bad is =
    let here : names_at room payload at ≡ Err fault = rw (more, end, bad) refl in
    let whole : Err fault ≡ all = ap (with_front front) (sym here) ∙ is in
    ap (λ read. result_unwrap_or read []) whole

pub no_room : (front : List (List ℕ)) (all : Read (List (List ℕ))) (room : ℕ) (payload : List ℕ) (at : ℕ)
    → room ≡ 0 → with_front front (names_at room payload at) ≡ all → [] ≡ result_unwrap_or all []
unfolding names_at
no_room front all room payload at none is =
    let whole : with_front front (names_at 0 payload at) ≡ all = rw none at is in
    ap (λ read. result_unwrap_or read []) whole

put : (front : List (List ℕ)) (name : List ℕ) (read : Read (List (List ℕ)))
    → with_front (front ++ name ∷ []) read ≡ with_front front (read >>= (λ names. Ok (name ∷ names)))
put front name (Ok names) = ap Ok (append_assoc front (name ∷ []) names)
put front name (Err fault) = refl

pub name_more : (front : List (List ℕ)) (room left : ℕ) (payload : List ℕ) (at : ℕ) (text : Text)
    → room ≡ suc left → (at == length payload) ≡ false → parasite_at payload at ≡ Ok text
    → with_front (front ++ text.name ∷ []) (names_at left payload text.next) ≡ with_front front (names_at room payload at)
unfolding names_at
name_more front room left payload at text more end good =
    let here : names_at room payload at ≡ (names_at left payload text.next >>= (λ names. Ok (text.name ∷ names))) =
    rw (more, end, good) refl in
    put front text.name (names_at left payload text.next) ∙ ap (with_front front) (sym here)
