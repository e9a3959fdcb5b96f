-- Decimal numbers, digit by digit.
use Rattle.std.proofs.Common.{◌≡◌, ℕ, suc, ◌+◌, ◌-◌, ◌*◌, ◌<◌, ◌≤◌, Bool, true, false, List, [], ◌∷◌, length, drop}
use Rattle.std.proofs.Common.{refl, ap, sym, ◌∙◌, arith, nat_lt, get_or}
use Rattle.std.specs.Prelude.{Option, None, if◌then◌else◌}
use Rattle.std.proofs.lemmas.Bool.{ltb-true}
use Rattle.std.proofs.Math.Seq.{drop-cons}
use Rattle.spec_script.specs.Words.{if_holds, is_digit, digits_from}
use Rattle.xl_words.specs.Numbers.{below}

within : (b : Bool) (limit value : ℕ) → nat_lt value limit ≡ b → limit ≤ value → if_holds b value ≡ None
within true limit value t h = absurd (omega (arith, ltb-true value limit t))
within false limit value t h = refl

past_step : (b : Bool) (limit : ℕ) (rest : Option ℕ) → below limit rest ≡ None → below limit (if b then rest else None) ≡ None
past_step true limit rest h = h
past_step false limit rest h = refl

-- a value that is too large stays so
pub past : (limit value : ℕ) (bytes : List ℕ) → limit ≤ value → below limit (digits_from value bytes) ≡ None
past limit value [] h = within (nat_lt value limit) limit value refl h
past limit value (b ∷ bytes) h =
    past_step (is_digit b) limit (digits_from (10 * value + (b - 48)) bytes)
    (past limit (10 * value + (b - 48)) bytes (omega arith))

pub digit_more : (value b : ℕ) (bytes : List ℕ) → is_digit b ≡ true
    → digits_from value (b ∷ bytes) ≡ digits_from (10 * value + (b - 48)) bytes
digit_more value b bytes e = rw e refl

-- the digits from a place on give the number of all
pub record ReadsOn (limit value place : ℕ) (word : List ℕ) : Type 0 where
  pub small : value < limit
  pub same : below limit (digits_from value (drop place word)) ≡ below limit (digits_from 0 word)

at_place : (place : ℕ) (word : List ℕ) → place < length word → drop place word ≡ get_or word place 0 ∷ drop (suc place) word
at_place place word h = drop-cons word place 0 h

pub reads_more : (limit value place : ℕ) (word : List ℕ) → ReadsOn limit value place word → place < length word
    → is_digit (get_or word place 0) ≡ true
    → below limit (digits_from (10 * value + (get_or word place 0 - 48)) (drop (suc place) word)) ≡ below limit (digits_from 0 word)
reads_more limit value place word r h e =
    let same = r.same in
    sym (ap (λ (zs : List ℕ). below limit (digits_from value zs)) (at_place place word h)
    ∙ ap (below limit) (digit_more value (get_or word place 0) (drop (suc place) word) e)) ∙ same

pub reads_past : (limit value place : ℕ) (word : List ℕ) → ReadsOn limit value place word → place < length word
    → is_digit (get_or word place 0) ≡ true → limit ≤ 10 * value + (get_or word place 0 - 48)
    → below limit (digits_from 0 word) ≡ None
reads_past limit value place word r h e p =
    sym (reads_more limit value place word r h e) ∙ past limit (10 * value + (get_or word place 0 - 48)) (drop (suc place) word) p
