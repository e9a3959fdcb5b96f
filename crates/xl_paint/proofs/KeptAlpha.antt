-- New bytes with the old alpha.
use Rattle.std.proofs.Common.{◌≡◌, ◌≢◌, ℕ, ◌+◌, ◌-◌, ◌*◌, ◌<◌, ◌≤◌, true, ◌==◌, cond, List, length, slice_index}
use Rattle.std.proofs.Common.{refl, sym, ◌∙◌, ap, arith, inl, inr, set, get_or-set_other, get_or-set_same, eq-eqb}
use Rattle.std.proofs.lemmas.List.{length-set}
use Rattle.std.proofs.lemmas.Bool.{cases_lt, cases_order, ne_eqb}
use Rattle.std.proofs.lemmas.Nat.{mul-add-lt}
use Rattle.spec_document.specs.declared.Rect.{Rect}
use Rattle.spec_document.specs.Rect.{part_above_0}
use Rattle.spec_document.specs.Plane.{Plane, byte_at}
use Rattle.xl_tiles.specs.Area.{bytes_in}
use Rattle.xl_paint.specs.Filling.{AreRows, but_alpha_in, in_rows}
use Rattle.xl_paint.proofs.MixedRows.{old_byte}

-- the pixels before one have their old byte again, and all else is as it was
pub record AreKept (n kept k : ℕ) (old start now : List ℕ) : Type 0 where
  pub size : length now ≡ length start
  pub done : (j c : ℕ) → j < k → c < n
      → slice_index now (j * n + c) ≡ cond (c == kept) (slice_index old (j * n + c)) (slice_index start (j * n + c))
  pub left : (m : ℕ) → k * n ≤ m → slice_index now m ≡ slice_index start m

pub none_kept : (n kept : ℕ) (old start : List ℕ) → AreKept n kept 0 old start start
none_kept n kept old start = record { size = refl; done = λ j c hj hc. omega (arith, hj); left = λ m h. refl }

-- one pixel more
pub pixel_kept : (n kept k : ℕ) (old start now : List ℕ) (value : ℕ) → kept < n → k * n + kept < length now
    → value ≡ slice_index old (k * n + kept) → AreKept n kept k old start now
    → AreKept n kept (k + 1) old start (set now (k * n + kept) value)
pixel_kept n kept k old start now value inside fits is so_far =
    let place = k * n + kept in
    record {
      size = length-set now place value ∙ so_far.size;
      done = λ j c hj hc.
          let at = j * n + c in
          elim (cases_lt j k) [
            | inl before ↦
                let other : at ≢ place = λ e. omega (arith, e, mul-add-lt j n c k before hc) in
                rw get_or-set_other (so_far.done j c before hc)
            | inr last ↦
                let here : j ≡ k = omega (arith, hj, last) in
                let start_is : j * n ≡ k * n = ap (λ m. m * n) here in
                let still : slice_index now at ≡ slice_index start at = so_far.left at (omega (arith, start_is)) in
                elim (cases_order c kept) [
                  | inl same ↦
                      let at_is : at ≡ place = omega (arith, start_is, same) in
                      (λ i. slice_index (set now place value) (at_is i))
                      ∙ (get_or-set_same now place value 0 fits
                      ∙ (is ∙ (ap (slice_index old) (sym at_is)
                      ∙ ap (λ b. cond b (slice_index old at) (slice_index start at)) (sym (eq-eqb c kept same)))))
                  | inr others ↦
                      let differs : c ≢ kept = elim others [
                        | inl below ↦ (λ e. omega (arith, e, below))
                        | inr above ↦ (λ e. omega (arith, e, above))
                      ] in
                      let other : at ≢ place = λ e. differs (omega (arith, e, start_is)) in
                      rw get_or-set_other (still
                      ∙ ap (λ b. cond b (slice_index old at) (slice_index start at)) (sym (ne_eqb c kept differs)))
                ]
          ];
      left = λ m h.
          let other : m ≢ place = λ e. omega (arith, e, h, inside) in
          rw get_or-set_other (so_far.left m (omega (arith, h)));
    }

-- the bytes of a rectangle, with the alpha that the plane has there
pub rows_kept : (rect : Rect) (p : Plane) (old new bytes : List ℕ) → old ≡ bytes_in p rect → length new ≡ rect.w * rect.h * p.bpp
    → length bytes ≡ length new
    → ((k c : ℕ) → k < rect.w * rect.h → c < p.bpp
    → slice_index bytes (k * p.bpp + c)
    ≡ cond (c == p.bpp - 1) (slice_index old (k * p.bpp + c)) (slice_index new (k * p.bpp + c)))
    → AreRows rect.w rect.h p.bpp (but_alpha_in true p rect (in_rows (rect.w * p.bpp) p.bpp new)) bytes
rows_kept rect p old new bytes is full same each = record {
  size = same ∙ (full ∙ omega arith);
  each = λ column row c hx hy hc.
      let n = p.bpp in
      let k = row * rect.w + column in
      let place : row * (rect.w * n) + (column * n + c) ≡ k * n + c = omega arith in
      let few : k < rect.w * rect.h = omega (arith, mul-add-lt row rect.w column rect.h hy hx) in
      let was : slice_index old (k * n + c) ≡ byte_at p (part_above_0 rect.x + column) (part_above_0 rect.y + row) c =
      ap (slice_index old) (sym place) ∙ old_byte p rect old is column row c hx hy hc in
      ap (slice_index bytes) place
      ∙ (each k c few hc ∙ (λ i. cond (c == n - 1) (was i) (slice_index new (sym place i))));
}
