use Rattle.std.proofs.Common.{◌∙◌, ap, length, map, take_all}
use Rattle.std.specs.Prelude.{Vec}
use Rattle.std.specs.declared.alloc.Global.{Global}
use Rattle.xl_play.proofs.Chests.{counts_are}
use Rattle.xl_play.proofs.filters.filter_counts.Goals as goal

pub returns : goal.returns
returns g c =
    c.loop-boxes.invariant ∙ (ap (map (λ (b : Vec _ Global). length b.items))
    (take_all c.loop-boxes.boxes-index c.args.chest.now c.loop-boxes-test.false) ∙ counts_are _ c.args.chest.now)
