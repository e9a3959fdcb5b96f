-- A row more is mixed into the old bytes.
use Rattle.std.proofs.Common.{◌≡◌, ℕ, List, ◌+◌, ◌-◌, ◌*◌, ◌<◌, ◌∙◌, sym, ap, subst, length, slice_index, arith}
use Rattle.std.proofs.lemmas.Nat.{mul-add-lt}
use Rattle.spec_document.specs.Plane.{byte_at}
use Rattle.spec_edit.specs.Effect.{mixed}
use Rattle.spec_document.specs.Rect.{part_above_0}
use Rattle.xl_tiles.specs.Block.{byte_after}
use Rattle.xl_paint.specs.Filling.{byte_in, in_rows, weight_at}
use Rattle.xl_paint.proofs.Weights.{pixel_fits}
use Rattle.xl_paint.proofs.MixedRows.{AreSoFar, row_mixed, old_byte, old_length, all_rows}
use Rattle.xl_paint.proofs.weighing.mix_rows.Goals as goal

pub mix_at-requires-clause-fits : goal.mix_at-requires-clause-fits
mix_at-requires-clause-fits c =
    let w = c.args.rect.w in
    let n = c.args.plane.now.bpp in
    let len : w * c.bpp-bpp.result ≡ w * n = ap (λ m. w * m) c.bpp-bpp.ensures.value in
    let above : c.loop-row.row * (w * c.bpp-bpp.result) ≡ c.loop-row.row * (w * n) = ap (λ m. c.loop-row.row * m) len in
    omega (
      arith,
      len,
      above,
      c.part-line.ensures.length,
      c.loop-row.invariant.rows.size,
      old_length c.args.plane.now c.args.rect c.args.bytes.now c.requires.bytes,
      pixel_fits c.loop-row.row c.args.rect.h (w * n) c.loop-row-test.true,
    )

pub loop-row-preserved : goal.loop-row-preserved
loop-row-preserved c =
    let d = c.args.doc.now in
    let p = c.args.plane.now in
    let rect = c.args.rect in
    let w = rect.w in
    let n = p.bpp in
    let r = c.loop-row.row in
    let site = c.args.site in
    let byte = byte_in d site p rect (in_rows c.args.new.step n c.args.new.bytes.now) in
    let weights = c.weigh_row.new.weights.bytes.items in
    let lent : c.deref.result.now ≡ weights = c.deref.ensures.value in
    let line = c.part-line.result.now in
    let now = c.loop-row.bytes in
    let next = c.mix_at.new.bytes in
    let len : w * c.bpp-bpp.result ≡ w * n = ap (λ m. w * m) c.bpp-bpp.ensures.value in
    let Put : ℕ → List ℕ → Type 0 = λ m ws. (k : ℕ) → slice_index next k
    ≡ byte_after (r * m) (length line) (slice_index now k)
    (mixed (slice_index ws (k - r * m)) (slice_index line (k - r * m)) (slice_index now k)) k in
    let is : (column b : ℕ) → column < w → b < n
    → mixed (slice_index weights (column * n + b)) (slice_index line (column * n + b))
    (slice_index c.args.bytes.now (r * (w * n) + (column * n + b))) ≡ byte column r b =
    λ column b hx hb.
    let inside : column * n + b < w * n = omega (arith, mul-add-lt column n b w hx hb) in
    let weight : slice_index weights (column * n + b) ≡ weight_at d site (part_above_0 rect.x + column) (part_above_0 rect.y + r) =
    ap (λ m. slice_index weights (column * m + b)) (sym c.bpp-bpp.ensures.value)
    ∙ (c.weigh_row.ensures.each column b (omega (arith, hx, c.loop-row.invariant.pixels))
    (omega (arith, hb, c.bpp-bpp.ensures.value))
    ∙ (λ i. weight_at d site (c.corner-x.ensures.x i + column) (c.corner-x.ensures.y i + r))) in
    let new : slice_index line (column * n + b) ≡ in_rows c.args.new.step n c.args.new.bytes.now column r b =
    c.part-line.ensures.each (column * n + b) (omega (arith, inside, len)) in
    let old : slice_index c.args.bytes.now (r * (w * n) + (column * n + b))
    ≡ byte_at p (part_above_0 rect.x + column) (part_above_0 rect.y + r) b =
    old_byte p rect c.args.bytes.now c.requires.bytes column r b hx c.loop-row-test.true hb in
    λ i. mixed (weight i) (new i) (old i) in
    let put = subst (λ m. Put m weights) len (subst (Put (w * c.bpp-bpp.result)) lent c.mix_at.ensures.each) in
    record {
      rows = row_mixed w n r byte c.args.bytes.now now next weights line c.loop-row.invariant.rows (c.part-line.ensures.length
          ∙ len) c.mix_at.ensures.size put is;
      pixels = c.weigh_row.ensures.pixels ∙ c.loop-row.invariant.pixels;
      wide = c.weigh_row.ensures.bytes ∙ c.loop-row.invariant.wide;
      scratch = c.weigh_row.ensures.scratch;
    }

pub returns : goal.returns
returns c =
    let p = c.args.plane.now in
    let rect = c.args.rect in
    let byte = byte_in c.args.doc.now c.args.site p rect (in_rows c.args.new.step p.bpp c.args.new.bytes.now) in
    let all : c.loop-row.row ≡ rect.h = omega (arith, c.loop-row-test.false, c.loop-row.auto.row-end) in
    let P : ℕ → Type 0 = λ r. AreSoFar rect.w p.bpp r byte c.args.bytes.now c.loop-row.bytes in
    all_rows p rect byte c.args.bytes.now c.loop-row.bytes c.requires.bytes (subst P all c.loop-row.invariant.rows)
