-- Words of a file of bytes fit 32 bits.
use Rattle.std.proofs.Common.{ℕ, ◌^◌, ◌<◌, List, get_or, subst, arith}
use Rattle.std.specs.List.{AllByRecursion}
use Rattle.spec_fields.specs.Field.{bytes_at, word_value, HasWord}
use Rattle.spec_fields.proofs.All.{all_at}
use Rattle.spec_fields.proofs.FieldsBack.{bytes_below}

pub word_below : (file : List ℕ) (at : ℕ) → AllByRecursion (λ b. b < 256) file → word_value file at < 2 ^ 32
word_below file at bytes =
    let each : (i : ℕ) → get_or (bytes_at file at 4) i 0 < 256 =
    λ i. all_at (λ b. b < 256) (bytes_at file at 4) i 0 (bytes_below file at 4 bytes) (omega arith) in
    omega (arith, each 0, each 1, each 2, each 3)

pub has_word_below : (file : List ℕ) (at n : ℕ) → AllByRecursion (λ b. b < 256) file → HasWord file at n → n < 2 ^ 32
has_word_below file at n bytes h = subst (λ m. m < 2 ^ 32) h.is (word_below file at bytes)
