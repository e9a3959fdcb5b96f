-- A name that stands in a file of bytes is within the limits.
use Rattle.std.proofs.Common.{◌≡◌, ◌≢◌, ℕ, zero, suc, ◌+◌, ◌<◌, ◌≤◌, min, Bool, true, false, nat_lt, refl, List, []}
use Rattle.std.proofs.Common.{◌∷◌, length, drop, get_or, slice_index, sym, ◌∙◌, ap, subst, arith}
use Rattle.std.specs.List.{AllByRecursion}
use Rattle.std.proofs.lemmas.Bool.{ltb-true, ltb-false}
use Rattle.std.proofs.lemmas.List.{get_or-take, get_or-drop, length-take}
use Rattle.spec_document.specs.Limits.{AreBytes, IsName}
use Rattle.spec_fields.specs.Field.{bytes_at, until_zero, zero_place, Text, HasName}
use Rattle.spec_fields.proofs.Back.{name_byte}
use Rattle.spec_fields.proofs.All.{all_take}
use Rattle.spec_fields.proofs.FieldsBack.{bytes_below}

-- what holds at each index holds of each element
from_indexes : (P : ℕ → Type 0) (xs : List ℕ) → ((i : ℕ) → i < length xs → P (get_or xs i 0)) → AllByRecursion P xs
from_indexes P [] h = tt
from_indexes P (x ∷ xs) h = (h 0 (omega arith), from_indexes P xs (λ i k. h (suc i) (omega (arith, k))))

-- a byte of a name is the byte of the file at its place
name_at_place : (file : List ℕ) (at n i : ℕ) → i < length (until_zero (bytes_at file at n))
    → get_or (until_zero (bytes_at file at n)) i 0 ≡ slice_index file (at + i)
name_at_place file at n i h =
    let bytes = bytes_at file at n in
    let short : length (until_zero bytes) ≡ min (zero_place bytes) (length bytes) = length-take (zero_place bytes) bytes in
    let cut : length bytes ≡ min n (length (drop at file)) = length-take n (drop at file) in
    get_or-take (zero_place bytes) bytes i 0 (omega (arith, h, short))
    ∙ (get_or-take n (drop at file) i 0 (omega (arith, h, short, cut)) ∙ get_or-drop at file i 0)

name_no_zero : (file : List ℕ) (at n : ℕ) → AllByRecursion (λ b. b ≢ 0) (until_zero (bytes_at file at n))
name_no_zero file at n =
    from_indexes (λ b. b ≢ 0) (until_zero (bytes_at file at n))
    (λ i h e. name_byte file at n i h (sym (name_at_place file at n i h) ∙ e))

most : (m k : ℕ) → m ≤ k → suc k ≤ 4097 → m ≤ 4096
most m k p q = omega (arith, p, q)

-- the last of n bytes is zero, so a name has fewer
name_fewer : (file : List ℕ) (at n : ℕ) → n ≤ 4097 → (0 < n → slice_index file (at + 3 + n) ≡ 0)
    → length (until_zero (bytes_at file (at + 4) n)) ≤ 4096
name_fewer file at zero short ends =
    omega (
      arith,
      length-take (zero_place (bytes_at file (at + 4) 0)) (bytes_at file (at + 4) 0),
      length-take 0 (drop (at + 4) file),
    )
name_fewer file at (suc n) short ends = by (nat_lt n (length (until_zero (bytes_at file (at + 4) (suc n))))) refl
  where
    by : (b : Bool) → nat_lt n (length (until_zero (bytes_at file (at + 4) (suc n)))) ≡ b
        → length (until_zero (bytes_at file (at + 4) (suc n))) ≤ 4096
    by true t =
        let place : at + 4 + n ≡ at + 3 + suc n = omega arith in
        absurd (name_byte file (at + 4) (suc n) n (ltb-true n (length (until_zero (bytes_at file (at + 4) (suc n)))) t)
        (ap (slice_index file) place ∙ ends (omega arith)))
    by false t = let less : length (until_zero (bytes_at file (at + 4) (suc n))) ≤ n =
        ltb-false n (length (until_zero (bytes_at file (at + 4) (suc n)))) t in most _ n less short

pub name_within : (file : List ℕ) (at : ℕ) (text : Text) → AreBytes file → HasName file at text → IsName text.name
name_within file at text all h =
    subst IsName (sym h.name) (record {
      short = name_fewer file at h.n h.short h.ends;
      bytes = all_take (λ b. b < 256) (zero_place (bytes_at file (at + 4) h.n)) (bytes_at file (at + 4) h.n)
          (bytes_below file (at + 4) h.n all);
      no_zero = name_no_zero file (at + 4) h.n;
    })
