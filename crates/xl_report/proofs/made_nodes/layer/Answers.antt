use Rattle.std.proofs.Common.{◌≡◌, ap, pos, w32, to_z, of_z, rules, arith}
use Rattle.std.proofs.lemmas.Int.{ints}
use Rattle.std.specs.Prelude.{◌≤ℤ◌}
use Rattle.spec_document.specs.declared.TheConstants.{MAX_OFFSET}
use Rattle.spec_document.specs.Plane.{Plane}
use Rattle.spec_generated.specs.Generated.{Look}
use Rattle.xl_report.proofs.MadeTrees.{layer_is}
use Rattle.xl_report.proofs.made_nodes.layer.Goals as goal

pub offset-requires : goal.offset-requires
offset-requires c =
    let is : c.look.inside.x ≡ c.args.look.now.x = ap (λ (l : Look). l.x) c.look.view_is in omega (arith, ints, is, c.requires.x)

pub offset-requires-2 : goal.offset-requires-2
offset-requires-2 c =
    let is : c.look.inside.y ≡ c.args.look.now.y = ap (λ (l : Look). l.y) c.look.view_is in omega (arith, ints, is, c.requires.y)

pub invariant_of-layer : goal.invariant_of-layer
invariant_of-layer c =
    let x : pos c.look.inside.x ≤ℤ MAX_OFFSET = let is : c.look.inside.x ≡ c.args.look.now.x =
    ap (λ (l : Look). l.x) c.look.view_is in omega (arith, ints, is, c.requires.x) in
    let y : pos c.look.inside.y ≤ℤ MAX_OFFSET = let is : c.look.inside.y ≡ c.args.look.now.y =
    ap (λ (l : Look). l.y) c.look.view_is in omega (arith, ints, is, c.requires.y) in
    rw (c.offset.ensures, c.offset-2.ensures)
    (record {
      kind = omega arith;
      x = (omega (arith, ints), omega (arith, ints, x));
      y = (omega (arith, ints), omega (arith, ints, y));
      bpp = ap (λ (p : Plane). p.bpp) c.in_ok-plane.ensures;
      mask = tt;
    })

pub returns : goal.returns
returns c =
    let x : to_z w32 (of_z w32 c.offset.result) ≡ pos c.look.inside.x = search rules in
    let y : to_z w32 (of_z w32 c.offset-2.result) ≡ pos c.look.inside.y = search rules in
    layer_is (record {
      x = c.look.inside.x;
      y = c.look.inside.y;
      mode = c.look.inside.mode;
      opacity = c.look.inside.opacity;
      pixel =
          c.look.inside.pixel;
    }) c.args.look.now
    c.new-2.result c.new-3.result _ _ c.in_ok-plane.plane c.look.view_is c.new-2.ensures c.new-3.ensures x y c.in_ok-plane.ensures
