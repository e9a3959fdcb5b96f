use Rattle.std.proofs.Common.{◌≡◌, ◌+◌, ◌<◌, ◌^◌, refl, pos, w32, to_z, arith}
use Rattle.std.proofs.lemmas.Int.{to_z_pos}
use Rattle.spec_edit.specs.Edit as edits
use Rattle.spec_generated.specs.Generated.{fill}
use Rattle.xl_report.proofs.Chains.{fill_is}
use Rattle.xl_report.proofs.MadeLines.{one_edit}
use Rattle.xl_report.proofs.Repeats.{same_drawn}
use Rattle.xl_report.proofs.made_lines.fill.Goals as goal

pub returns : goal.returns
returns c =
    let x : to_z w32 c.draw-x.result ≡ pos c.draw-x.result =
    let small : c.draw-x.result < 2 ^ 31 = omega (arith, c.draw-x.ensures.below) in to_z_pos w32 c.draw-x.result small in
    let y : to_z w32 c.draw-y.result ≡ pos c.draw-y.result =
    let small : c.draw-y.result < 2 ^ 31 = omega (arith, c.draw-y.ensures.below) in to_z_pos w32 c.draw-y.result small in
    let line = one_edit c.new-edits.result c.push.new.self _ _ c.new-edits.ensures c.in_ok-push.ensures.ok
    (λ i. edits.fill c.args.layer (record { x = x i; y = y i; w = 1 + c.draw-w.result; h = 1 + c.draw-h.result })
    (c.in_ok-pixel.ensures i)) in
    same_drawn (fill c.args.layer) c.args.draws.now c.args.draws.now c.pixel-colour.new.self _ _ refl line
    (fill_is c.args.layer _ _ _ _ _ _ _ _ _ _ _ c.draw-x.ensures.value c.draw-y.ensures.value c.draw-w.ensures.value
    c.draw-h.ensures.value c.pixel-colour.ensures.drawn)
