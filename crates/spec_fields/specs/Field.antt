-- Words and names at an offset of a file.
use Rattle.std.specs.Prelude.{◌≡◌, ℕ, true, ◌+◌, ◌<◌, ◌≤◌, ◌==◌, nat_le, List, length, take, drop, slice_index}
use Rattle.std.specs.Prelude.{position, unwrap_or, Ok, Err, if◌then◌else◌, ℤ}
use Rattle.std.specs.Int.{w32, from_be_bytes, cast_signed}
use Rattle.spec_fields.specs.declared.TheConstants.{MAX_NAME_IN_FILE}
use Rattle.spec_fields.specs.declared.Kind.TheVariants.{Truncated, BadString}
use Rattle.spec_fields.specs.Reading.{Read, ◌>>=◌, fault, wants}

-- n bytes of the file from an offset on
abbrev pub bytes_at : (file : List ℕ) (at n : ℕ) → List ℕ
bytes_at file at n = take n (drop at file)

-- the word at an offset, the highest byte first
abbrev pub word_value : (file : List ℕ) (at : ℕ) → ℕ
word_value file at = from_be_bytes w32 (bytes_at file at 4)

-- these bytes stand at the offset
pub record HasBytes (file : List ℕ) (at : ℕ) (bytes : List ℕ) : Type 0 where
  pub fits : at + length bytes ≤ length file
  pub are : bytes_at file at (length bytes) ≡ bytes

-- this word stands at the offset
pub record HasWord (file : List ℕ) (at n : ℕ) : Type 0 where
  pub fits : at + 4 ≤ length file
  pub is : word_value file at ≡ n

abbrev pub word_at : (file : List ℕ) (at : ℕ) → Read ℕ
word_at file at = if nat_le (at + 4) (length file) then Ok (word_value file at) else Err (fault Truncated at)

-- the signed word at an offset
abbrev pub int_at : (file : List ℕ) (at : ℕ) → Read ℤ
int_at file at = do
  word ← word_at file at
  Ok (cast_signed w32 word)

-- a name, and the offset after it
pub record Text : Type 0 where
  pub name : List ℕ
  pub next : ℕ

-- the place of the first zero byte, or the length where there is none
abbrev pub zero_place : List ℕ → ℕ
zero_place bytes = unwrap_or (position (λ b. b == 0) bytes) (length bytes)

-- the bytes before the first zero byte
abbrev pub until_zero : List ℕ → List ℕ
until_zero bytes = take (zero_place bytes) bytes

-- A name is a word n and then n bytes, the last of them zero; the word 0 alone is the empty name.
-- The name is what stands before the first zero byte.
pub record HasName (file : List ℕ) (at : ℕ) (text : Text) : Type 0 where
  pub n : ℕ
  pub has : HasWord file at n
  pub short : n ≤ MAX_NAME_IN_FILE
  pub fits : at + 4 + n ≤ length file
  pub ends : 0 < n → slice_index file (at + 3 + n) ≡ 0
  pub name : text.name ≡ until_zero (bytes_at file (at + 4) n)
  pub next : text.next ≡ at + 4 + n

unfoldable pub name_at : (file : List ℕ) (at : ℕ) → Read Text
name_at file at = do
  n ← word_at file at
  _ ← wants (nat_le n MAX_NAME_IN_FILE) (fault BadString at)
  _ ← wants (nat_le (at + 4 + n) (length file)) (fault Truncated (at + 4))
  _ ← wants (if n == 0 then true else slice_index file (at + 3 + n) == 0) (fault BadString at)
  Ok (record { name = until_zero (bytes_at file (at + 4) n); next = at + 4 + n })
