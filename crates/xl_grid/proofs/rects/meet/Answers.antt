use Rattle.xl_grid.proofs.Near.{near_is, end_is}
use Rattle.xl_grid.proofs.rects.meet.Goals as goal

pub returns : goal.returns
returns c =
    let ax = near_is c.args.a.x c.requires.first.x in
    let ay = near_is c.args.a.y c.requires.first.y in
    let bx = near_is c.args.b.x c.requires.second.x in
    let by = near_is c.args.b.y c.requires.second.y in
    let lx = near_is c.later-x.result c.later-x.ensures.near in
    let ly = near_is c.later-y.result c.later-y.ensures.near in
    let r = end_is c.earlier-right.result c.earlier-right.ensures.end in
    let b = end_is c.earlier-bottom.result c.earlier-bottom.ensures.end in
    let p = end_is c.past.result c.past.ensures.end in
    let p2 = end_is c.past-2.result c.past-2.ensures.end in
    let p3 = end_is c.past-3.result c.past-3.ensures.end in
    let p4 = end_is c.past-4.result c.past-4.ensures.end in
    cc
