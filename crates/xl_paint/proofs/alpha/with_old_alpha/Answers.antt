-- The alphas that stay are those of the plane.
use Rattle.std.proofs.Common.{rules, ◌≡◌, ℕ, ◌+◌, ◌-◌, ◌*◌, ◌<◌, ◌==◌, true, cond, List, length, slice_index, sym, ◌∙◌, ap, subst, arith}
use Rattle.xl_paint.specs.Filling.{AreRows, but_alpha_in, in_rows}
use Rattle.xl_paint.proofs.MixedRows.{old_length}
use Rattle.xl_paint.proofs.FilteredRows.{whole_taken}
use Rattle.xl_paint.proofs.KeptAlpha.{rows_kept}
use Rattle.xl_paint.proofs.alpha.with_old_alpha.Goals as goal

pub keep_bytes-requires-clause-old : goal.keep_bytes-requires-clause-old
keep_bytes-requires-clause-old c =
    let rect = c.args.rect in
    old_length c.args.plane.now rect c.deref.result.now (c.deref.ensures.value ∙ c.in_ok-old.ensures)
    ∙ (ap (λ n. rect.h * (rect.w * n)) (sym c.bpp-bpp.ensures.value) ∙ omega arith)

pub returns : goal.returns
returns c =
    let rect = c.args.rect in
    let p = c.args.plane.now in
    let old = c.deref.result.now in
    let bytes = c.keep_bytes.new.bytes in
    let P : ℕ → List ℕ → Type 0 = λ n start. (k b : ℕ) → k < rect.w * rect.h → b < n
    → slice_index bytes (k * n + b) ≡ cond (b == n - 1) (slice_index old (k * n + b)) (slice_index start (k * n + b)) in
    let one : P p.bpp c.deref_mut.result.now =
    subst (λ n. P n c.deref_mut.result.now) c.bpp-bpp.ensures.value c.keep_bytes.ensures.each in
    let each : P p.bpp c.args.new.items = subst (λ start. P p.bpp start) c.deref_mut.ensures.value one in
    let same : length bytes ≡ length c.args.new.items = c.keep_bytes.ensures.size ∙ ap length c.deref_mut.ensures.value in
    let rows = rows_kept rect p old c.args.new.items bytes (c.deref.ensures.value ∙ c.in_ok-old.ensures) c.requires.new same each in
    let full : c.args.new.len ≡ length c.args.new.items = search rules in
    subst (AreRows rect.w rect.h p.bpp (but_alpha_in true p rect (in_rows (rect.w * p.bpp) p.bpp c.args.new.items)))
    (sym (whole_taken c.args.new.len bytes c.args.new.items full same)) rows
