-- Bytes that go through weights, of which 255 is the whole.
use Rattle.std.proofs.Common.{◌≡◌, ◌≢◌, ℕ, suc, ◌+◌, ◌*◌, ◌<◌, ◌≤◌, Bool, true, false, cond, List, length, slice_index}
use Rattle.std.proofs.Common.{refl, ◌∙◌, ap, sym, arith, inl, inr, set, get_or-set_other, get_or-set_same}
use Rattle.std.proofs.Common.{mul-le-mul_right}
use Rattle.std.specs.Prelude.{if◌then◌else◌, nat_le, Option, Some, None, is_none, ℤ}
use Rattle.std.proofs.lemmas.Bool.{cases_lt, cases_order, false≢true}
use Rattle.std.proofs.lemmas.Bool.Decides.{nat_tests}
use Rattle.std.proofs.lemmas.Nat.{mul-add-lt}
use Rattle.spec_document.specs.Document.{Document, Channel}
use Rattle.spec_document.specs.Selection.{selected, selected_in}
use Rattle.spec_edit.specs.Effect.{mixed, replaced}
use Rattle.xl_tiles.specs.Block.{byte_after}
use Rattle.xl_paint.specs.Filling.{weight}

-- the whole of a new byte replaces the old one
pub mixed-whole : (new old : ℕ) → mixed 255 new old ≡ new
mixed-whole new old = omega arith

-- nothing of a new byte leaves the old one
pub mixed-nothing : (new old : ℕ) → mixed 0 new old ≡ old
mixed-nothing new old = omega arith

all_or_nothing : (test : Bool) (new old : ℕ) → cond test new old ≡ mixed (cond test 255 0) new old
all_or_nothing true new old = sym (mixed-whole new old)
all_or_nothing false new old = sym (mixed-nothing new old)

-- a replaced byte is one that goes through all or nothing
pub weighed : (indexed : Bool) (s new old : ℕ)
    → (if indexed then replaced s new old else mixed s new old) ≡ mixed (weight indexed s) new old
weighed true s new old = all_or_nothing (nat_le 128 s) new old
weighed false s new old = refl

weight-whole : (indexed : Bool) → weight indexed 255 ≡ 255
weight-whole true = refl
weight-whole false = refl

selected-whole : (o : Option Channel) (d : Document) (x y : ℤ) → is_none o ≡ true → selected_in o d x y ≡ 255
selected-whole None d x y e = refl
selected-whole (Some s) d x y e = absurd (false≢true e)

-- without a selection each byte is replaced
pub no_selection : (indexed : Bool) (d : Document) (x y : ℤ) (new old : ℕ) → is_none d.selection ≡ true
    → mixed (weight indexed (selected d x y)) new old ≡ new
no_selection indexed d x y new old e =
    ap (λ s. mixed (weight indexed s) new old) (selected-whole d.selection d x y e)
    ∙ (ap (λ s. mixed s new old) (weight-whole indexed) ∙ mixed-whole new old)

pub after_out : (at n old new k : ℕ) → k < at → byte_after at n old new k ≡ old
after_out at n old new k h = grind (arith, nat_tests)

pub after_in : (at n old new c : ℕ) → c < n → byte_after at n old new (at + c) ≡ new
after_in at n old new c h = grind (arith, nat_tests)

pub after_behind : (at n old new k : ℕ) → at + n ≤ k → byte_after at n old new k ≡ old
after_behind at n old new k h = grind (arith, nat_tests)

after_next : (at n old new k : ℕ) → k ≢ at + n → byte_after at (n + 1) old new k ≡ byte_after at n old new k
after_next at n old new k h = grind (arith, nat_tests)

-- one byte more from a place on
pub byte_more : (out : List ℕ) (at n value : ℕ) (of old : ℕ → ℕ) → at + n < length out → value ≡ of (at + n)
    → ((k : ℕ) → slice_index out k ≡ byte_after at n (old k) (of k) k) → (k : ℕ)
    → slice_index (set out (at + n) value) k ≡ byte_after at (n + 1) (old k) (of k) k
byte_more out at n value of old fits is before k =
    elim (cases_order k (at + n)) [
      | inl same ↦
          (λ i. slice_index (set out (at + n) value) (same i))
          ∙ (get_or-set_same out (at + n) value 0 fits
          ∙ (is ∙ (sym (after_in at (n + 1) (old (at + n)) (of (at + n)) n (omega arith))
          ∙ (λ i. byte_after at (n + 1) (old (sym same i)) (of (sym same i)) (sym same i)))))
      | inr others ↦
          let other : k ≢ at + n = elim others [
            | inl below ↦ (λ e. omega (arith, e, below))
            | inr above ↦ (λ e. omega (arith, e, above))
          ] in
          rw get_or-set_other (before k ∙ sym (after_next at n (old k) (of k) k other))
    ]

-- a pixel of a row lies in the row
pub pixel_fits : (k many n : ℕ) → k < many → k * n + n ≤ many * n
pixel_fits k many n h = let more : suc k * n ≤ many * n = mul-le-mul_right n (omega (arith, h)) in omega (arith, more)

-- one pixel more whose bytes have its weight
pub spread_more : (weights out next : List ℕ) (k n : ℕ)
    → ((j c : ℕ) → j < k → c < n → slice_index out (j * n + c) ≡ slice_index weights j)
    → ((i : ℕ) → slice_index next i ≡ byte_after (k * n) n (slice_index out i) (slice_index weights k) i)
    → (j c : ℕ) → j < k + 1 → c < n → slice_index next (j * n + c) ≡ slice_index weights j
spread_more weights out next k n before put j c hj hc =
    put (j * n + c)
    ∙ elim (cases_lt j k) [
      | inl earlier ↦ after_out (k * n) n _ _ _ (omega (arith, mul-add-lt j n c k earlier hc)) ∙ before j c earlier hc
      | inr late ↦
          let same : j ≡ k = omega (arith, hj, late) in
          let start : j * n ≡ k * n = ap (λ m. m * n) same in
          let place : j * n + c ≡ k * n + c = ap (λ m. m + c) start in
          (λ i. byte_after (k * n) n (slice_index out (j * n + c)) (slice_index weights k) (place i))
          ∙ (after_in (k * n) n _ _ c hc ∙ ap (slice_index weights) (sym same))
    ]
