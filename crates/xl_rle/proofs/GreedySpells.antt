-- The greedy spelling is a spelling, and not much longer than its plane.
use Rattle.std.proofs.Common.{◌≡◌, ℕ, zero, suc, ◌+◌, ◌*◌, ◌<◌, ◌≤◌, Bool, true, false, cond, List, [], ◌∷◌, ◌++◌}
use Rattle.std.proofs.Common.{length, drop, replicate, refl, ap, ◌∙◌, sym, subst, arith, length-append, get_or, Fits}
use Rattle.std.proofs.Common.{w8}
use Rattle.std.specs.Prelude.{flat_map, nat_le}
use Rattle.std.specs.List.{AllByRecursion}
use Rattle.std.proofs.lemmas.Bool.{leb-true, leb-false, false≢true}
use Rattle.std.proofs.lemmas.List.{length-replicate}
use Rattle.spec_rle.specs.declared.TheConstants.{MAX_EXCESS}
use Rattle.spec_rle.specs.Codes.{Code, short_run, long_run, short_literal, long_literal, IsCode, code_bytes}
use Rattle.spec_rle.specs.Codes.{code_pixels, EndsWithBytes, Spells}
use Rattle.spec_rle.specs.Greedy.{run_length, begins_run, up_to_run, run_code, literal_code, first_code, greedy_codes, greedy}
use Rattle.xl_rle.proofs.GreedyCodes.{pixels_of_run, pixels_of_literal, first_gives, first_is_run, first_is_literal}
use Rattle.xl_rle.proofs.GreedyCodes.{literal_some, literal_parts, run_parts, spell}

abbrev AreBytes : List ℕ → Type 0
AreBytes bytes = AllByRecursion (λ b. b < 256) bytes

pub are_bytes : (xs : List ℕ) → ((i : ℕ) → Fits w8 (get_or xs i 0)) → AreBytes xs
are_bytes [] h = tt
are_bytes (x ∷ xs) h = ((h 0).fits, are_bytes xs (λ i. h (suc i)))

front_bytes : (a b : List ℕ) → AreBytes (a ++ b) → AreBytes a
front_bytes [] b h = tt
front_bytes (x ∷ a) b h = (h.0, front_bytes a b h.1)

back_bytes : (a b : List ℕ) → AreBytes (a ++ b) → AreBytes b
back_bytes [] b h = h
back_bytes (x ∷ a) b h = back_bytes a b h.1

code_of_run : (n b : ℕ) → 1 ≤ n → n ≤ 4096 → b < 256 → IsCode (run_code n b)
code_of_run n b some few byte = by (nat_le n 127) refl
  where
    by : (t : Bool) → nat_le n 127 ≡ t → IsCode (cond t (short_run n b) (long_run n b))
    by true e = (some, leb-true n 127 e, byte)
    by false e = (omega (arith, few), byte)

code_of_literal : (bytes : List ℕ) → 1 ≤ length bytes → length bytes ≤ 4096 → AreBytes bytes → IsCode (literal_code bytes)
code_of_literal bytes some few are = by (nat_le (length bytes) 127) refl
  where
    by : (t : Bool) → nat_le (length bytes) 127 ≡ t → IsCode (cond t (short_literal bytes) (long_literal bytes))
    by true e = (some, leb-true (length bytes) 127 e, are)
    by false e = (omega (arith, few), are)

-- the first code of a plane, and what it gives
record IsFirst (b : ℕ) (bytes : List ℕ) : Type 0 where
  pub is_code : IsCode (first_code b bytes)
  pub some : 0 < length (code_pixels (first_code b bytes))

first_run : (b : ℕ) (bytes : List ℕ) → length (b ∷ bytes) ≤ 4096 → AreBytes (b ∷ bytes) → begins_run (b ∷ bytes) ≡ true
    → IsFirst b bytes
first_run b bytes few are on =
    let n = run_length (b ∷ bytes) in
    let code : run_code n b ≡ first_code b bytes = sym (first_is_run b bytes on) in
    let size : length (code_pixels (run_code n b)) ≡ n = ap length (pixels_of_run n b) ∙ length-replicate n b in
    let fits : n ≤ length (b ∷ bytes) =
    omega (arith, ap length (run_parts b bytes), length-append (replicate n b) (drop n (b ∷ bytes)), length-replicate n b) in
    record {
      is_code = subst IsCode code (code_of_run n b (omega arith) (omega (arith, fits, few)) are.0);
      some = omega (arith, ap (λ c. length (code_pixels c)) code, size);
    }

first_literal : (b : ℕ) (bytes : List ℕ) → length (b ∷ bytes) ≤ 4096 → AreBytes (b ∷ bytes) → begins_run (b ∷ bytes) ≡ false
    → IsFirst b bytes
first_literal b bytes few are off =
    let front = up_to_run (b ∷ bytes) in
    let code : literal_code front ≡ first_code b bytes = sym (first_is_literal b bytes off) in
    let size : length (code_pixels (literal_code front)) ≡ length front = ap length (pixels_of_literal front) in
    let some : 0 < length front = literal_some (b ∷ bytes) (omega arith) off in
    let parts = literal_parts (b ∷ bytes) in
    let fits : length front ≤ length (b ∷ bytes) =
    omega (arith, ap length parts, length-append front (drop (length front) (b ∷ bytes))) in
    let bytes' : AreBytes front = front_bytes front (drop (length front) (b ∷ bytes)) (subst AreBytes (sym parts) are) in
    record {
      is_code = subst IsCode code (code_of_literal front some (omega (arith, fits, few)) bytes');
      some = omega (arith, ap (λ c. length (code_pixels c)) code, size, some);
    }

first_is : (b : ℕ) (bytes : List ℕ) → length (b ∷ bytes) ≤ 4096 → AreBytes (b ∷ bytes) → IsFirst b bytes
first_is b bytes few are = by (begins_run (b ∷ bytes)) refl
  where
    by : (t : Bool) → begins_run (b ∷ bytes) ≡ t → IsFirst b bytes
    by true e = first_run b bytes few are e
    by false e = first_literal b bytes few are e

-- codes that give the bytes
record AreCodes (bytes : List ℕ) (codes : List Code) : Type 0 where
  pub few : length codes ≤ length bytes
  pub each : AllByRecursion IsCode codes
  pub some : AllByRecursion (λ code. 0 < length (code_pixels code)) codes
  pub given : bytes ≡ flat_map code_pixels codes

codes_are : (n : ℕ) (bytes : List ℕ) → length bytes ≤ n → length bytes ≤ 4096 → AreBytes bytes
    → AreCodes bytes (greedy_codes n bytes)
codes_are zero [] enough few are = record { few = omega arith; each = tt; some = tt; given = refl }
codes_are zero (b ∷ bytes) enough few are = absurd (omega (arith, enough))
codes_are (suc n) [] enough few are = record { few = omega arith; each = tt; some = tt; given = refl }
codes_are (suc n) (b ∷ bytes) enough few are =
    let pixels = code_pixels (first_code b bytes) in
    let rest = drop (length pixels) (b ∷ bytes) in
    let parts : pixels ++ rest ≡ b ∷ bytes = first_gives b bytes in
    let first = first_is b bytes few are in
    let size : length pixels + length rest ≡ suc (length bytes) = sym (length-append pixels rest) ∙ ap length parts in
    let more = codes_are n rest (omega (arith, size, first.some, enough)) (omega (arith, size, few))
    (back_bytes pixels rest (subst AreBytes (sym parts) are)) in
    record {
      few = omega (arith, size, first.some, more.few);
      each = (first.is_code, more.each);
      some = (first.some, more.some);
      given = sym parts ∙ ap (λ xs. pixels ++ xs) more.given;
    }

ends_with : (code : Code) (codes : List Code) → AllByRecursion (λ c. 0 < length (code_pixels c)) (code ∷ codes)
    → EndsWithBytes (code ∷ codes)
ends_with code [] h = h.0
ends_with code (next ∷ codes) h = ends_with next codes h.1

pub greedy_spells : (plane : List ℕ) → 1 ≤ length plane → length plane ≤ 4096 → AreBytes plane → Spells (greedy plane) plane
greedy_spells [] some few are = absurd (omega (arith, some))
greedy_spells (b ∷ bytes) some few are =
    let codes = codes_are (suc (length bytes)) (b ∷ bytes) (omega arith) few are in (
      greedy_codes (suc (length bytes)) (b ∷ bytes),
      record {
        few = omega (arith, codes.few, few);
        each = codes.each;
        ends = ends_with (first_code b bytes)
            (greedy_codes (length bytes) (drop (length (code_pixels (first_code b bytes))) (b ∷ bytes))) codes.some;
        spelled = refl;
        given = codes.given;
      },
    )

some_of : (b : ℕ) (bytes : List ℕ) → 0 < length (code_pixels (first_code b bytes))
some_of b bytes = by (begins_run (b ∷ bytes)) refl
  where
    by : (t : Bool) → begins_run (b ∷ bytes) ≡ t → 0 < length (code_pixels (first_code b bytes))
    by true e =
        let n = run_length (b ∷ bytes) in
        omega (
          arith,
          ap (λ c. length (code_pixels c)) (first_is_run b bytes e),
          ap length (pixels_of_run n b),
          length-replicate n b,
        )
    by false e =
        let front = up_to_run (b ∷ bytes) in
        omega (
          arith,
          ap (λ c. length (code_pixels c)) (first_is_literal b bytes e),
          ap length (pixels_of_literal front),
          literal_some (b ∷ bytes) (omega arith) e,
        )

-- a run begins here, or nothing stands here
abbrev BeginsOrEnds : List ℕ → Type 0
BeginsOrEnds [] = Unit {0}
BeginsOrEnds (b ∷ bytes) = begins_run (b ∷ bytes) ≡ true

behind_literal : (bytes : List ℕ) → BeginsOrEnds (drop (length (up_to_run bytes)) bytes)
behind_literal [] = tt
behind_literal (b ∷ bytes) = by b bytes (begins_run (b ∷ bytes)) refl (behind_literal bytes)
  where
    by : (b : ℕ) (bytes : List ℕ) (t : Bool) → begins_run (b ∷ bytes) ≡ t → BeginsOrEnds (drop (length (up_to_run bytes)) bytes)
        → BeginsOrEnds (drop (length (cond t [] (b ∷ up_to_run bytes))) (b ∷ bytes))
    by b bytes true e more = e
    by b bytes false e more = more

-- a run saves what the codes round it cost
run_short : (n b : ℕ) → 3 ≤ n → 131 * length (code_bytes (run_code n b)) + 137 ≤ 133 * n
run_short n b h = by (nat_le n 127) refl
  where
    by : (t : Bool) → nat_le n 127 ≡ t → 131 * length (code_bytes (cond t (short_run n b) (long_run n b))) + 137 ≤ 133 * n
    by true e = omega (arith, h)
    by false e = omega (arith, leb-false n 127 e)

literal_short : (bytes : List ℕ) → 131 * length (code_bytes (literal_code bytes)) ≤ 133 * length bytes + 137
literal_short bytes = by (nat_le (length bytes) 127) refl
  where
    by : (t : Bool) → nat_le (length bytes) 127 ≡ t
        → 131 * length (code_bytes (cond t (short_literal bytes) (long_literal bytes))) ≤ 133 * length bytes + 137
    by true e = omega arith
    by false e = omega (arith, leb-false (length bytes) 127 e)

-- the length of a spelling, and of one that begins with a run
record IsShort (n : ℕ) (bytes : List ℕ) : Type 0 where
  pub any : 131 * length (spell n bytes) ≤ 133 * length bytes + 137
  pub run : BeginsOrEnds bytes → 131 * length (spell n bytes) ≤ 133 * length bytes

short_run_first : (n b : ℕ) (bytes : List ℕ) → begins_run (b ∷ bytes) ≡ true
    → 131 * length (spell n (drop (length (code_pixels (first_code b bytes))) (b ∷ bytes)))
    ≤ 133 * length (drop (length (code_pixels (first_code b bytes))) (b ∷ bytes)) + 137
    → 131 * length (spell (suc n) (b ∷ bytes)) ≤ 133 * length (b ∷ bytes)
short_run_first n b bytes on rest_short =
    let r = run_length (b ∷ bytes) in
    let code = first_code b bytes in
    let rest = drop (length (code_pixels code)) (b ∷ bytes) in
    let is : code ≡ run_code r b = first_is_run b bytes on in
    let size : length (code_pixels code) ≡ r = ap (λ c. length (code_pixels c)) is
    ∙ (ap length (pixels_of_run r b) ∙ length-replicate r b) in
    let whole : length (code_pixels code) + length rest ≡ suc (length bytes) = sym (length-append (code_pixels code) rest)
    ∙ ap length (first_gives b bytes) in
    let cost : length (code_bytes code) ≡ length (code_bytes (run_code r b)) = ap (λ c. length (code_bytes c)) is in
    let all = length-append (code_bytes code) (spell n rest) in
    let saved = run_short r b (leb-true 3 r on) in
    omega (arith, all, cost, saved, whole, size, rest_short)

short_literal_first : (n b : ℕ) (bytes : List ℕ) → begins_run (b ∷ bytes) ≡ false
    → (BeginsOrEnds (drop (length (code_pixels (first_code b bytes))) (b ∷ bytes))
    → 131 * length (spell n (drop (length (code_pixels (first_code b bytes))) (b ∷ bytes)))
    ≤ 133 * length (drop (length (code_pixels (first_code b bytes))) (b ∷ bytes)))
    → 131 * length (spell (suc n) (b ∷ bytes)) ≤ 133 * length (b ∷ bytes) + 137
short_literal_first n b bytes off rest_short =
    let front = up_to_run (b ∷ bytes) in
    let code = first_code b bytes in
    let rest = drop (length (code_pixels code)) (b ∷ bytes) in
    let is : code ≡ literal_code front = first_is_literal b bytes off in
    let size : length (code_pixels code) ≡ length front = ap (λ c. length (code_pixels c)) is
    ∙ ap length (pixels_of_literal front) in
    let whole : length (code_pixels code) + length rest ≡ suc (length bytes) = sym (length-append (code_pixels code) rest)
    ∙ ap length (first_gives b bytes) in
    let cost : length (code_bytes code) ≡ length (code_bytes (literal_code front)) = ap (λ c. length (code_bytes c)) is in
    let all = length-append (code_bytes code) (spell n rest) in
    let begins : BeginsOrEnds rest = subst (λ k. BeginsOrEnds (drop k (b ∷ bytes))) (sym size) (behind_literal (b ∷ bytes)) in
    omega (arith, all, cost, literal_short front, whole, size, rest_short begins)

are_short : (n : ℕ) (bytes : List ℕ) → length bytes ≤ n → IsShort n bytes
are_short zero [] enough = record { any = omega arith; run = λ h. omega arith }
are_short zero (b ∷ bytes) enough = absurd (omega (arith, enough))
are_short (suc n) [] enough = record { any = omega arith; run = λ h. omega arith }
are_short (suc n) (b ∷ bytes) enough =
    let rest = drop (length (code_pixels (first_code b bytes))) (b ∷ bytes) in
    let size : length (code_pixels (first_code b bytes)) + length rest ≡ suc (length bytes) =
    sym (length-append (code_pixels (first_code b bytes)) rest) ∙ ap length (first_gives b bytes) in
    by (begins_run (b ∷ bytes)) refl (are_short n rest (omega (arith, size, some_of b bytes, enough)))
  where
    by : (t : Bool) → begins_run (b ∷ bytes) ≡ t → IsShort n (drop (length (code_pixels (first_code b bytes))) (b ∷ bytes))
        → IsShort (suc n) (b ∷ bytes)
    by true e more = let short = short_run_first n b bytes e more.any in record { any = omega (arith, short); run = λ h. short }
    by false e more = record { any = short_literal_first n b bytes e more.run; run = λ h. absurd (false≢true (sym e ∙ h)) }

pub greedy_short : (plane : List ℕ) → length plane ≤ 4096 → length (greedy plane) ≤ length plane + MAX_EXCESS
greedy_short plane few = omega (arith, (are_short (length plane) plane (omega arith)).any, few)
