-- A word and a name that were read stand in the file.
use Rattle.std.proofs.Common.{◌≡◌, ℕ, zero, suc, ◌+◌, ◌<◌, ◌≤◌, Bool, true, false, cond, List, ◌++◌, length, drop}
use Rattle.std.proofs.Common.{slice_index, refl, sym, ◌∙◌, ap, arith, length-append, append_assoc}
use Rattle.std.specs.Prelude.{Ok, Err, Option, Some, None, nat_le, ◌==◌}
use Rattle.std.specs.List.{AllByRecursion}
use Rattle.std.proofs.lemmas.Bool.{leb-true, eqb-true}
use Rattle.std.proofs.Math.Dec.{eqb-suc-zero}
use Rattle.std.proofs.lemmas.List.{length-take-le, length-drop}
use Rattle.spec_fields.specs.declared.Kind.TheVariants.{Truncated, BadString}
use Rattle.spec_fields.specs.declared.ReadRefused.{ReadRefused}
use Rattle.spec_fields.specs.Reading.{Read, ◌>>=◌, fault, given, unless}
use Rattle.spec_fields.specs.Field.{bytes_at, word_value, word_at, Text, name_at, until_zero, HasWord, HasBytes, HasName}
use Rattle.spec_fields.proofs.Steps.{chosen_false}
use Rattle.spec_fields.proofs.Fields.{has_rest, has_from}
use Rattle.spec_fields.proofs.Back.{bind_back, wants_back}
use Rattle.spec_fields.proofs.All.{all_take, all_drop, all_at}

-- one value was read
pub one_read : {A : Type 0} (x y : A) → ◌≡◌ {A = Read A} (Ok x) (Ok y) → x ≡ y
one_read x y e = cc

-- it was there
pub given_back : {A B : Type 0} (found : Option A) (refused : ReadRefused) (rest : A → Read B) (y : B)
    → (given found refused >>= rest) ≡ Ok y → (x : A) × (found ≡ Some x) × (rest x ≡ Ok y)
given_back (Some x) refused rest y e = (x, refl, e)
given_back None refused rest y e = cc

-- no rule failed
pub unless_back : {B : Type 0} (found : Option ReadRefused) (rest : Unit {0} → Read B) (y : B)
    → (unless found >>= rest) ≡ Ok y → (found ≡ None) × (rest tt ≡ Ok y)
unless_back None rest y e = (refl, e)
unless_back (Some refused) rest y e = cc

-- which way a choice went
pub choice_back : {A : Type 0} (test : Bool) (x y : Read A) (z : A) → cond test x y ≡ Ok z
    → (test ≡ true → x ≡ Ok z) × (test ≡ false → y ≡ Ok z)
choice_back true x y z e = (λ _. e, λ f. cc)
choice_back false x y z e = (λ f. cc, λ _. e)

pub word_back : (file : List ℕ) (at n : ℕ) → word_at file at ≡ Ok n → HasWord file at n
word_back file at n e = by (nat_le (at + 4) (length file)) refl e
  where
    by : (b : Bool) → nat_le (at + 4) (length file) ≡ b → cond b (Ok (word_value file at)) (Err (fault Truncated at)) ≡ Ok n
        → HasWord file at n
    by true fits e = record { fits = leb-true (at + 4) (length file) fits; is = cc }
    by false fits e = cc

-- a step back past a word
pub word_first : {B : Type 0} (file : List ℕ) (at : ℕ) (rest : ℕ → Read B) (y : B) → (word_at file at >>= rest) ≡ Ok y
    → (n : ℕ) × HasWord file at n × (rest n ≡ Ok y)
word_first file at rest y e =
    let a = bind_back (word_at file at) rest y e in (a.0, word_back file at a.0 a.1, a.2)

-- bytes that fit stand where they are taken
pub length-bytes_at : (file : List ℕ) (at n : ℕ) → at + n ≤ length file → length (bytes_at file at n) ≡ n
length-bytes_at file at n fits = length-take-le n (drop at file) (omega (arith, fits, length-drop at file))

pub has_bytes : (file : List ℕ) (at n : ℕ) → at + n ≤ length file → HasBytes file at (bytes_at file at n)
has_bytes file at n fits =
    let size = length-bytes_at file at n fits in
    record { fits = omega (arith, size, fits); are = ap (bytes_at file at) size }

-- bytes before bytes
pub has_both : (file : List ℕ) (at : ℕ) (a b : List ℕ) → HasBytes file at a → HasBytes file (at + length a) b
    → HasBytes file at (a ++ b)
has_both file at a b p q =
    let rest = drop (at + length a + length b) file in
    has_from file at (a ++ b) rest (omega (arith, q.fits, length-append a b))
    (has_rest file at a p ∙ (ap (λ xs. a ++ xs) (has_rest file (at + length a) b q) ∙ sym (append_assoc a b rest)))

pub byte_below : (file : List ℕ) (at : ℕ) → AllByRecursion (λ b. b < 256) file → slice_index file at < 256
byte_below file at bytes = all_at (λ b. b < 256) file at 0 bytes (omega arith)

pub bytes_below : (file : List ℕ) (at n : ℕ) → AllByRecursion (λ b. b < 256) file
    → AllByRecursion (λ b. b < 256) (bytes_at file at n)
bytes_below file at n bytes = all_take (λ b. b < 256) n (drop at file) (all_drop (λ b. b < 256) at file bytes)

last_zero : (file : List ℕ) (at n : ℕ) → cond (n == 0) true (slice_index file (at + 3 + n) == 0) ≡ true → 0 < n
    → slice_index file (at + 3 + n) ≡ 0
last_zero file at zero e some = absurd (omega (arith, some))
last_zero file at (suc n) e some =
    eqb-true (slice_index file (at + 3 + suc n)) 0
    (sym (chosen_false (suc n == 0) true (slice_index file (at + 3 + suc n) == 0) (eqb-suc-zero n)) ∙ e)

pub name_has : (file : List ℕ) (at : ℕ) (text : Text) → name_at file at ≡ Ok text → HasName file at text
unfolding name_at
name_has file at text e =
    let a = word_first file at _ text e in
    let b = wants_back (nat_le a.0 4097) (fault BadString at) _ text a.2 in
    let c = wants_back (nat_le (at + 4 + a.0) (length file)) (fault Truncated (at + 4)) _ text b.1 in
    let d = wants_back (cond (a.0 == 0) true (slice_index file (at + 3 + a.0) == 0)) (fault BadString at) _ text c.1 in
    let is : record { name = until_zero (bytes_at file (at + 4) a.0); next = at + 4 + a.0 } ≡ text = cc in
    record {
      n = a.0;
      has = a.1;
      short = leb-true a.0 4097 b.0;
      fits = leb-true (at + 4 + a.0) (length file) c.0;
      ends = last_zero file at a.0 d.0;
      name = ap (λ t. t.name) (sym is);
      next = ap (λ t. t.next) (sym is);
    }
