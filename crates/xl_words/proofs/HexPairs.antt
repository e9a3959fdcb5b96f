-- Hexadecimal bytes as the library reads them.
use Rattle.std.proofs.Common.{◌≡◌, ◌⊎◌, inl, inr, ℕ, ◌+◌, ◌*◌, ◌%◌, ◌==◌, Bool, true, false, cond, List, [], ◌∷◌, length, refl, ap, sym, ◌∙◌, arith}
use Rattle.std.proofs.Common.{Result, Ok, Err}
use Rattle.std.proofs.lemmas.Bool.{eqb-true}
use Rattle.std.proofs.lemmas.Bool.Decides.{nat_tests}
use Rattle.std.specs.Prelude.{Option, Some, None}
use Rattle.spec_script.specs.Words.{◌>>=◌, hex_digit, hex_bytes}
use Rattle.hex.specs.Hex.{◌>>=◌ as after, decode_of, decode_pairs, digit_or_error, hex_digit_value}
use Rattle.hex.specs.declared.error.FromHexError.{FromHexError}
use Rattle.hex.specs.declared.error.FromHexError.TheVariants.{OddLength, OutOfMemory}

-- what was read, or none
abbrev found : Result (List ℕ) FromHexError → Option (List ℕ)
found (Ok bytes) = Some bytes
found (Err e) = None

same_digit : (c : ℕ) → hex_digit_value c ≡ hex_digit c
same_digit c = grind (arith, nat_tests)

pair_same : (a b i : ℕ) (high low : Option ℕ) (rest : Result (List ℕ) FromHexError)
    → found (after (after (digit_or_error a i high) (λ h. after (digit_or_error b (i + 1) low) (λ l. Ok (h * 16 + l))))
    (λ byte. after rest (λ bytes. Ok (byte ∷ bytes))))
    ≡ (high >>= λ h. low >>= λ l. found rest >>= λ bytes. Some ((16 * h + l) ∷ bytes))
pair_same a b i None low rest = refl
pair_same a b i (Some h) None rest = refl
pair_same a b i (Some h) (Some l) (Err e) = refl
pair_same a b i (Some h) (Some l) (Ok bytes) = let same : h * 16 + l ≡ 16 * h + l = omega arith in ap (λ n. Some (n ∷ bytes)) same

pairs_same : (i : ℕ) (digits : List ℕ) → found (decode_pairs i digits) ≡ hex_bytes digits
unfolding decode_pairs
pairs_same i [] = refl
pairs_same i (a ∷ []) = refl
pairs_same i (a ∷ b ∷ digits) =
    pair_same a b i (hex_digit_value a) (hex_digit_value b) (decode_pairs (i + 2) digits)
    ∙ (λ j. same_digit a j >>= λ h. same_digit b j >>= λ l. pairs_same (i + 2) digits j >>= λ bytes. Some ((16 * h + l) ∷ bytes))

none_behind : (high low : Option ℕ) (rest : Option (List ℕ)) → rest ≡ None
    → (high >>= λ h. low >>= λ l. rest >>= λ bytes. Some ((16 * h + l) ∷ bytes)) ≡ None
none_behind None low rest none = refl
none_behind (Some h) None rest none = refl
none_behind (Some h) (Some l) None none = refl
none_behind (Some h) (Some l) (Some bytes) none = cc

odd_none : (digits : List ℕ) → length digits % 2 ≡ 1 → hex_bytes digits ≡ None
odd_none [] odd = absurd (omega (arith, odd))
odd_none (a ∷ []) odd = refl
odd_none (a ∷ b ∷ digits) odd =
    none_behind (hex_digit a) (hex_digit b) (hex_bytes digits) (odd_none digits (omega (arith, odd)))

-- digits are bytes where the library finds some
pub found_is : (digits : List ℕ) → found (decode_of digits) ≡ hex_bytes digits
found_is digits = by (length digits % 2 == 1) refl
  where
    by : (odd : Bool) → (length digits % 2 == 1) ≡ odd → found (cond odd (Err OddLength) (decode_pairs 0 digits)) ≡ hex_bytes digits
    by true odd = sym (odd_none digits (eqb-true (length digits % 2) 1 odd))
    by false odd = pairs_same 0 digits

pub read_some : (digits : List ℕ) {bytes : List ℕ} → decode_of digits ≡ Ok bytes → Some bytes ≡ hex_bytes digits
read_some digits read = sym (ap found read) ∙ found_is digits

-- no other refusal is for want of memory
pub read_none : (digits : List ℕ) (e : FromHexError) → (e ≡ OutOfMemory → ⊥) → (e ≡ OutOfMemory) ⊎ (decode_of digits ≡ Err e)
    → None ≡ hex_bytes digits
read_none digits e other (inl memory) = absurd (other memory)
read_none digits e other (inr read) = sym (ap found read) ∙ found_is digits
