-- The bytes of the plane are those of the layer.
use Rattle.std.proofs.Common.{rules, ◌≡◌, ℕ, ◌+◌, ◌*◌, ◌<◌, cond, nat_lt, List, length, slice_index, sym, ◌∙◌, ap, subst, arith}
use Rattle.xl_doc.specs.Sheet.{Sheet}
use Rattle.xl_paint.specs.Filtered.{AreFiltered, colours_of}
use Rattle.xl_paint.proofs.FilteredRows.{rows_through, whole_taken}
use Rattle.xl_paint.proofs.MixedRows.{old_length}
use Rattle.xl_paint.proofs.filtering.bytes_through.Goals as goal

pub pixels_through-requires-clause-whole : goal.pixels_through-requires-clause-whole
pixels_through-requires-clause-whole c =
    let rect = c.args.rect in
    old_length c.layer.inside.plane rect c.deref_mut.result.now (c.deref_mut.ensures.value ∙ c.in_ok-bytes.ensures)
    ∙ (ap (λ n. rect.h * (rect.w * n)) (sym c.bpp-bpp.ensures.value) ∙ omega arith)

pub returns : goal.returns
returns c =
    let rect = c.args.rect in
    let s : Sheet = c.args.layer.now in
    let table = c.args.table.now in
    let p = c.layer.inside.plane in
    let old = c.deref_mut.result.now in
    let new = c.pixels_through.new.bytes in
    let P : ℕ → List ℕ → ℕ → Type 0 = λ n t colours. (k b : ℕ) → k < rect.w * rect.h → b < n
    → slice_index new (k * n + b) ≡ cond (nat_lt b colours) (slice_index t (slice_index old (k * n + b)))
    (slice_index old (k * n + b)) in
    let one : P p.bpp c.as_slice.result.now c.colour_bytes-colours.result =
    subst (λ n. P n c.as_slice.result.now c.colour_bytes-colours.result) c.bpp-bpp.ensures.value c.pixels_through.ensures.each in
    let two : P p.bpp table c.colour_bytes-colours.result =
    subst (λ t. P p.bpp t c.colour_bytes-colours.result) c.as_slice.ensures.value one in
    let each : P p.bpp table (colours_of s) = subst (λ m. P p.bpp table m) c.colour_bytes-colours.ensures.value two in
    let through : AreFiltered table (colours_of s) rect p new =
    rows_through table (colours_of s) rect p old new (c.deref_mut.ensures.value
    ∙ c.in_ok-bytes.ensures) c.pixels_through.ensures.size each in
    let of_layer : AreFiltered table (colours_of s) rect s.plane new =
    subst (λ (q : Sheet). AreFiltered table (colours_of s) rect q.plane new) c.layer.view_is through in
    let full : c.in_ok-bytes.bytes.len ≡ length c.in_ok-bytes.bytes.items = search rules in
    let same : length new ≡ length c.in_ok-bytes.bytes.items = c.pixels_through.ensures.size
    ∙ ap length c.deref_mut.ensures.value in
    subst (AreFiltered table (colours_of s) rect s.plane)
    (sym (whole_taken c.in_ok-bytes.bytes.len new c.in_ok-bytes.bytes.items full same)) of_layer
