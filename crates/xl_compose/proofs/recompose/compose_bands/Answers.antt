use Rattle.std.proofs.Common.{◌≡◌, ℕ, ◌+◌, ◌*◌, ◌≤◌, List, length, min, ap, sym, ◌∙◌, arith, refl, mul_comm}
use Rattle.std.specs.Prelude.{Some, flat_map}
use Rattle.spec_document.specs.Forest.{levels, stack_at}
use Rattle.spec_document.specs.Rect.{count_from}
use Rattle.xl_doc.specs.Nodes.{nodes_of}
use Rattle.xl_doc.proofs.NodesOf.{agrees_in}
use Rattle.spec_document.specs.Picture.{picture, stack_pixel, picture_bytes, pixel_bytes}
use Rattle.xl_compose.specs.Cost.{visible_in, visible_below}
use Rattle.xl_compose.specs.Depth.{levels_below}
use Rattle.xl_compose.proofs.Depths.{levels_are}
use Rattle.xl_compose.proofs.Costs.{band_cost}
use Rattle.xl_compose.proofs.Recomposed.{some_stack, picture_is, count_is}
use Rattle.xl_compose.proofs.PictureRows.{bands_more, rows_all, rows_fit, natural_is}
use Rattle.xl_compose.proofs.recompose.compose_bands.Goals as goal
use Rattle.spec_document.specs.declared.TheConstants.{MAX_SIDE}

pub unwrap-nodes-requires : goal.unwrap-nodes-requires
unwrap-nodes-requires g c =
    rw c.stack.ensures.value (some_stack c.args.stack.0 c.doc.inside.tree (rw (← c.doc.view_is) at c.requires.stack))

pub compose_band-requires-clause-pictures : goal.compose_band-requires-clause-pictures
compose_band-requires-clause-pictures g c =
    let d = c.args.doc.now in
    let is = sym c.stack.ensures.value ∙ c.unwrap-nodes.ensures in
    let deep : levels_below d c.args.stack.0 ≡ levels c.again.result =
    levels_are d c.args.stack.0 c.doc.inside.tree c.unwrap-nodes.result (ap (λ d. d.nodes) (sym c.doc.view_is)) is
    ∙ ap levels (sym c.again.ensures) in
    let same = ap (λ n. n * c.args.rect.w) deep in
    omega (arith, same, c.requires.pictures)

pub compose_band-requires-clause-agree : goal.compose_band-requires-clause-agree
compose_band-requires-clause-agree g c =
    rw c.again.ensures (agrees_in c.args.stack.0 c.doc.inside.tree c.unwrap-nodes.result c.doc.invariant.marks
    (sym c.stack.ensures.value ∙ c.unwrap-nodes.ensures))

pub slice_bounds-part-end : goal.slice_bounds-part-end
slice_bounds-part-end g c =
    let many : length c.loop-b.out ≡ 4 * (c.args.rect.w * c.args.rect.h) = omega arith in
    let fits = rows_fit c.args.rect.w c.args.rect.h (64 * c.loop-b.b + c.min.result) (4 * c.args.rect.w) c.loop-b.out refl many
    (omega arith) in
    omega (arith, fits)

pub loop-b-preserved : goal.loop-b-preserved
loop-b-preserved g c =
    let d = c.args.doc.now in
    let stack = c.args.stack.0 in
    let x = c.natural-x.result in
    let y = c.natural-y.result in
    let of : ℕ → List ℕ = λ b. flat_map (λ u. pixel_bytes (picture d stack u b)) (count_from x c.args.rect.w) in
    let is : stack_at stack c.doc.inside.tree ≡ Some c.unwrap-nodes.result = sym c.stack.ensures.value ∙ c.unwrap-nodes.ensures in
    let point : (u v : ℕ) → stack_pixel c.as_slice-colours.result.now u v (nodes_of c.again.result) ≡ picture d stack u v =
    λ u v. ap (λ nodes. stack_pixel c.as_slice-colours.result.now u v (nodes_of nodes)) c.again.ensures
    ∙ (ap (λ colours. stack_pixel colours u v (nodes_of c.unwrap-nodes.result)) (c.as_slice-colours.ensures
    ∙ ap (λ d. d.colours) c.doc.view_is)
    ∙ sym (picture_is d stack u v c.doc.inside.tree c.unwrap-nodes.result (ap (λ d. d.nodes) (sym c.doc.view_is)) is)) in
    let many : length c.loop-b.out ≡ 4 * (c.args.rect.w * c.args.rect.h) = omega arith in
    let size : length c.compose_band.new.out ≡ 4 * (c.min.result * c.args.rect.w) = c.compose_band.ensures.length in
    let counted : visible_in (nodes_of c.again.result) ≡ visible_below d stack =
    ap (λ nodes. visible_in (nodes_of nodes)) c.again.ensures
    ∙ sym (count_is d stack c.doc.inside.tree c.unwrap-nodes.result (ap (λ d. d.nodes) (sym c.doc.view_is)) is) in
    let added : c.compose_band.new.steps ≤ c.loop-b.steps + visible_below d stack * (c.min.result * c.args.rect.w) =
    rw counted at c.compose_band.ensures.cost in
    record {
      written = bands_more of y c.loop-b.b c.args.rect.h c.min.result (4 * c.args.rect.w) c.loop-b.out c.compose_band.new.out
          (omega arith) (omega arith) (omega (arith, size))
          (c.compose_band.ensures.shows ∙ (λ i.
          flat_map (λ v. flat_map (λ u. pixel_bytes (point u v i)) (count_from x c.args.rect.w))
          (count_from (y + 64 * c.loop-b.b) c.min.result)))
          c.loop-b.invariant.written (rows_fit c.args.rect.w c.args.rect.h (64 * c.loop-b.b)
          (4 * c.args.rect.w) c.loop-b.out refl many (omega arith));
      cost = band_cost c.args.steps.now c.loop-b.steps c.compose_band.new.steps
          (visible_below d stack) c.args.rect.w c.args.rect.h c.loop-b.b c.min.result c.loop-b.invariant.cost added (omega arith)
          (omega arith);
    }

pub returns-clause-cost : goal.returns-clause-cost
returns-clause-cost g c =
    let all : min (64 * c.loop-b.b) c.args.rect.h ≡ c.args.rect.h = omega arith in
    let turned : c.args.rect.h * c.args.rect.w ≡ c.args.rect.w * c.args.rect.h = mul_comm c.args.rect.h c.args.rect.w in
    rw (← turned) (rw all at c.loop-b.invariant.cost)

pub returns-clause-picture : goal.returns-clause-picture
returns-clause-picture g c =
    let d = c.args.doc.now in
    let many : length c.loop-b.out ≡ 4 * (c.args.rect.w * c.args.rect.h) = omega arith in
    let small_w : d.width ≤ MAX_SIDE = rw (← c.doc.view_is) c.doc.invariant.limits.width.1 in
    let small_h : d.height ≤ MAX_SIDE = rw (← c.doc.view_is) c.doc.invariant.limits.height.1 in
    let x = c.natural-x.ensures ∙ natural_is c.args.rect.x c.args.rect.w d.width c.requires.inside.left c.requires.inside.right
    small_w in
    let y = c.natural-y.ensures ∙ natural_is c.args.rect.y c.args.rect.h d.height c.requires.inside.top c.requires.inside.bottom
    small_h in
    let all : min (64 * c.loop-b.b) c.args.rect.h ≡ c.args.rect.h = omega arith in
    rows_all c.args.rect.w c.args.rect.h (min (64 * c.loop-b.b) c.args.rect.h) (4 * c.args.rect.w) c.loop-b.out _ refl many all
    (c.loop-b.invariant.written ∙ ap (picture_bytes d c.args.stack.0 c.natural-x.result c.natural-y.result c.args.rect.w) all)
    ∙ (λ i. picture_bytes d c.args.stack.0 (x i) (y i) c.args.rect.w c.args.rect.h)
