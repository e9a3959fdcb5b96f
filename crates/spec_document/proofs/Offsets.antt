-- The test of an offset and what it says.
use Rattle.std.proofs.Common.{◌≡◌, Bool, true, false, ◌&&◌, refl, ◌∙◌, ap}
use Rattle.std.specs.Prelude.{T, ℤ, neg_ℤ, int_le}
use Rattle.std.specs.Int.Signed.{le_z_yes}
use Rattle.std.proofs.lemmas.Float.{T_from_true}
use Rattle.spec_document.specs.declared.TheConstants.{MAX_OFFSET}
use Rattle.spec_document.specs.Limits.{is_offset, IsOffset}

both_hold : (a b : Bool) → (a && b) ≡ true → (a ≡ true) × (b ≡ true)
both_hold true true e = (refl, refl)
both_hold true false e = cc
both_hold false b e = cc

pub offset_is : (z : ℤ) → is_offset z ≡ true → IsOffset z
offset_is z e =
    let both = both_hold (int_le (neg_ℤ MAX_OFFSET) z) (int_le z MAX_OFFSET) e in
    (le_z_yes (T_from_true (int_le (neg_ℤ MAX_OFFSET) z) both.0), le_z_yes (T_from_true (int_le z MAX_OFFSET) both.1))

true_from_T : (b : Bool) → T b → b ≡ true
true_from_T true t = refl
true_from_T false t = absurd t

pub offset_true : (z : ℤ) → IsOffset z → is_offset z ≡ true
offset_true z h =
    ap (λ b. b && int_le z MAX_OFFSET) (true_from_T (int_le (neg_ℤ MAX_OFFSET) z) h.0.le) ∙ true_from_T (int_le z MAX_OFFSET) h.1.le
