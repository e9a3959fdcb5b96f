-- Blocks of pixels that lie over tiles.
use Rattle.std.proofs.Common.{◌≡◌, ℕ, ◌+◌, ◌-◌, ◌*◌, ◌<◌, ◌≤◌, ◌==◌, ◌&&◌, Bool, true, false, cond, List, slice_index, length}
use Rattle.std.proofs.Common.{Option, None, Some, refl, sym, ap, ◌∙◌, arith}
use Rattle.std.specs.Arc.{arc_value}
use Rattle.std.specs.declared.sync.Arc.{Arc}
use Rattle.std.proofs.lemmas.Nat.{mul-le}
use Rattle.std.proofs.lemmas.Bool.Decides.{nat_tests}
use Rattle.spec_document.specs.Limits.{AreBytes}
use Rattle.spec_document.proofs.BytesMade.{bytes_made, index_byte}
use Rattle.spec_document.proofs.PlaneLemmas.{index-bytes_over}
use Rattle.spec_fields.proofs.Steps.{chosen_true}
use Rattle.xl_tile.specs.Block.{is_in, pixel_byte}
use Rattle.xl_tile.specs.Overlay.{is_whole, overlaid, under, Fits, FitsOver}
use Rattle.xl_tile.specs.declared.overlay.Overlay.{Overlay}
use Rattle.xl_tile.specs.declared.overlay.Patch.{Patch}
use Rattle.xl_tile.proofs.Points.{length_over, over_is}

-- the byte of a point under the block
abbrev pub byte_of : Overlay → (buffer old : List ℕ) → (x y c : ℕ) → ℕ
byte_of o buffer old x y c =
    pixel_byte o.to o.from o.block.w o.block.h o.block.bpp buffer (slice_index old ((y * o.to.stride + x) * o.block.bpp + c)) x y c

from_zero : (o : Overlay) (buffer old : List ℕ) (x y c : ℕ) → byte_of o buffer old (0 + x) (0 + y) c ≡ byte_of o buffer old x y c
from_zero o buffer old x y c =
    let column : 0 + x ≡ x = omega arith in
    let line : 0 + y ≡ y = omega arith in
    λ i. byte_of o buffer old (column i) (line i) c

pub length_overlaid : (o : Overlay) (buffer old : List ℕ)
    → length (overlaid o buffer old) ≡ o.to.stride * o.rows * o.block.bpp
unfolding overlaid
length_overlaid o buffer old = length_over 0 0 o.to.stride o.rows o.block.bpp (byte_of o buffer old)

pub index_overlaid : (o : Overlay) (buffer old : List ℕ) (x y c : ℕ) → x < o.to.stride → y < o.rows → c < o.block.bpp
    → slice_index (overlaid o buffer old) ((y * o.to.stride + x) * o.block.bpp + c) ≡ byte_of o buffer old x y c
unfolding overlaid
index_overlaid o buffer old x y c hx hy hc =
    index-bytes_over (byte_of o buffer old) 0 0 o.to.stride o.rows o.block.bpp x y c hx hy hc ∙ from_zero o buffer old x y c

-- a tile into which the block was copied
pub overlaid_is : (o : Overlay) (buffer old next : List ℕ) → length next ≡ o.to.stride * o.rows * o.block.bpp
    → ((x y c : ℕ) → x < o.to.stride → c < o.block.bpp
    → slice_index next ((y * o.to.stride + x) * o.block.bpp + c) ≡ byte_of o buffer old x y c)
    → next ≡ overlaid o buffer old
unfolding overlaid
overlaid_is o buffer old next size each =
    over_is next 0 0 o.to.stride o.rows o.block.bpp (byte_of o buffer old) size
    (λ x y c hx hy hc. each x y c hx hc ∙ sym (from_zero o buffer old x y c))

either : (b : Bool) (m n : ℕ) → m < 256 → n < 256 → cond b m n < 256
either true m n hm hn = hm
either false m n hm hn = hn

pub bytes_overlaid : (o : Overlay) (buffer old : List ℕ) → AreBytes buffer → AreBytes old → AreBytes (overlaid o buffer old)
unfolding overlaid
bytes_overlaid o buffer old all all_old =
    bytes_made (byte_of o buffer old) 0 0 o.to.stride o.rows o.block.bpp (λ x y c.
    either (is_in o.to.x o.to.y o.block.w o.block.h x y) _ _
    (index_byte buffer (((y - o.to.y + o.from.y) * o.from.stride + (x - o.to.x + o.from.x)) * o.block.bpp + c) all)
    (index_byte old ((y * o.to.stride + x) * o.block.bpp + c) all_old))

-- a point of a tile is in a block that is all of it
inside : (X Y w h stride rows x y : ℕ) → ((X == 0 && Y == 0) && (w == stride && h == rows)) ≡ true → x < stride → y < rows
    → is_in X Y w h x y ≡ true
inside X Y w h stride rows x y whole hx hy = grind (arith, nat_tests, whole, hx, hy)

-- a block that is all of the tile does not show what is below
pub same_over : (o : Overlay) (buffer old other : List ℕ) → is_whole o ≡ true → overlaid o buffer old ≡ overlaid o buffer other
unfolding overlaid
same_over o buffer old other whole =
    over_is (overlaid o buffer old) 0 0 o.to.stride o.rows o.block.bpp (byte_of o buffer other) (length_overlaid o buffer old)
    (λ x y c hx hy hc.
    let on = inside o.to.x o.to.y o.block.w o.block.h o.to.stride o.rows x y whole hx hy in
    index_overlaid o buffer old x y c hx hy hc
    ∙ (chosen_true (is_in o.to.x o.to.y o.block.w o.block.h x y) _ _ on
    ∙ sym (from_zero o buffer other x y c ∙ chosen_true (is_in o.to.x o.to.y o.block.w o.block.h x y) _ _ on)))

-- bytes over which a block was laid, which are those of a tile but where the block is all of it
pub laid_over : (o : Overlay) (buffer own old : List ℕ) → (is_whole o ≡ false → own ≡ old)
    → overlaid o buffer own ≡ overlaid o buffer old
laid_over o buffer own old same = by (is_whole o) refl
  where
    by : (b : Bool) → is_whole o ≡ b → overlaid o buffer own ≡ overlaid o buffer old
    by true whole = same_over o buffer own old whole
    by false part = ap (overlaid o buffer) (same part)

-- a tile has as many bytes with a block over it
pub same_length : (o : Overlay) (buffer old : List ℕ) → Fits o (length old) (length buffer)
    → length (overlaid o buffer old) ≡ length old
same_length o buffer old fits = length_overlaid o buffer old ∙ sym fits.size_is

-- a tile has as many bytes under a patch
pub length_under : {Z : Type 0} (patch : Option (Arc Patch Z)) (old : List ℕ) → FitsOver patch (length old)
    → length (under patch old) ≡ length old
length_under None old fits = refl
length_under (Some patch) old fits =
    same_length (arc_value patch).overlay (arc_value (arc_value patch).buffer).items old fits

pub few_bytes : {o : Overlay} {size room : ℕ} → Fits o size room → size ≤ 16384
few_bytes {o = o} fits =
    let pixels : o.to.stride * o.rows ≤ 64 * 64 = mul-le o.to.stride o.rows 64 64 fits.wide fits.tall in
    omega (arith, mul-le (o.to.stride * o.rows) o.block.bpp (64 * 64) 4 pixels fits.few, fits.size_is)
