use Rattle.std.proofs.Common.{◌≡◌, ◌+◌, ◌∷◌, [], refl, rules, arith, length-append}
use Rattle.spec_generated.specs.Generated.{look}
use Rattle.spec_document.proofs.Elements.{all-append}
use Rattle.xl_report.specs.Looks.{IsLook}
use Rattle.xl_report.proofs.Repeats.{times_all, times_step}
use Rattle.xl_report.proofs.look.looks.Goals as goal

pub loop-layer-preserved : goal.loop-layer-preserved
loop-layer-preserved c =
    let n = c.loop-layer._layer in
    let so_far = c.loop-layer.looks.items in
    rw c.in_ok-push.ensures.items
    (record {
      drawn = times_step look n (n + 1) c.args.draws.now c.loop-layer.draws c.draw.new.draws so_far c.draw.result refl
          c.loop-layer.invariant.drawn c.draw.ensures.drawn;
      many = omega (arith, length-append so_far (c.draw.result ∷ []), c.loop-layer.invariant.many);
      each = all-append IsLook so_far (c.draw.result ∷ []) c.loop-layer.invariant.each (c.draw.ensures.fits, tt);
    })

pub returns-clause-drawn : goal.returns-clause-drawn
returns-clause-drawn c =
    let end : c.loop-layer._layer ≡ 8 = search rules in
    times_all look c.loop-layer._layer 8 c.args.draws.now c.loop-layer.draws c.loop-layer.looks.items end
    c.loop-layer.invariant.drawn
