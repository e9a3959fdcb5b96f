use Rattle.std.proofs.Common.{◌≡◌, ◌+◌, ◌*◌, ◌<◌, ◌≤◌, ◌^◌, ◌++◌, ℕ, List, ap, ◌∙◌, arith}
use Rattle.std.proofs.lemmas.Nat.{mul-le}
use Rattle.spec_document.specs.Grid.{tiles_along}
use Rattle.spec_document.specs.declared.TheConstants.{MAX_SIDE}
use Rattle.xl_hier.specs.declared.writing.TheConstants.{FIRST_TILE_BELOW}
use Rattle.xl_hier.proofs.Filling.{few_tiles}
use Rattle.xl_hier.proofs.Whole.{laid_out}
use Rattle.xl_hier.proofs.writing.hierarchy.Goals as goal

-- how many tiles there are, as code counts them
count_is : (columns rows w h p q : ℕ) → columns ≡ tiles_along w → rows ≡ tiles_along h → w ≡ p → h ≡ q
    → rows * columns ≡ tiles_along q * tiles_along p
count_is columns rows w h p q c r ew eh = λ i. (r ∙ ap tiles_along eh) i * (c ∙ ap tiles_along ew) i

first_small : (at count w h : ℕ) → at < 2 ^ 31 → count ≡ tiles_along h * tiles_along w → w ≤ MAX_SIDE → h ≤ MAX_SIDE
    → at + 32 + 4 * count < FIRST_TILE_BELOW
first_small at count w h short is hw hh =
    omega (arith, short, is, mul-le (tiles_along h) (tiles_along w) 256 256 (few_tiles h hh) (few_tiles w hw))

pub tiles_of-requires-clause-short : goal.tiles_of-requires-clause-short
tiles_of-requires-clause-short g c =
    let p = c.args.plane.now in
    let all = count_is _ _ _ _ p.width p.height c.grid-columns.ensures.columns c.grid-columns.ensures.rows c.width.ensures.value
    c.height.ensures.value in
    first_small c.args.at (c.grid-columns.result.1 * c.grid-columns.result.0) p.width p.height c.requires.short all
    c.width.ensures.sized.width.1 c.height.ensures.sized.height.1

pub returns-clause-written : goal.returns-clause-written
returns-clause-written g c =
    let p = c.args.plane.now in
    let all = count_is _ _ _ _ p.width p.height c.grid-columns.ensures.columns c.grid-columns.ensures.rows c.width.ensures.value
    c.height.ensures.value in
    let front : List ℕ = c.in_ok-front.front.items in
    let tiles : List ℕ = c.in_ok-tiles.tiles.bytes in
    let heads = rw c.as_slice-begins.ensures.value at c.in_ok-front.ensures in
    let appended : c.append.new.self ≡ front = c.in_ok-append.ensures.ok
    ∙ (λ i. c.new-bytes.ensures i ++ c.as_slice.ensures.value i) in
    laid_out g.C.PlaneCoder.fits c.args.compression p c.args.at _ tiles c.in_ok-tiles.tiles.begins.items front c.append_all.new.self
    c.width.ensures.sized.few c.in_ok-tiles.ensures.ok (ap (λ n. c.args.at + 32 + 4 * n) all) heads
    (c.in_ok-append_all.ensures.ok ∙ ap (λ (xs : List ℕ). xs ++ tiles) appended)
