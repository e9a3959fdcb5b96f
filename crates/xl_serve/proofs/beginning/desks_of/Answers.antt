use Rattle.std.proofs.Common.{◌∙◌, ◌∷◌, [], length, refl, ap, arith, length-append}
use Rattle.xl_serve.proofs.Begun.{desk_chest, full_none, full_push, one_less}
use Rattle.xl_serve.proofs.beginning.desks_of.Goals as goal

pub loop-session-init : goal.loop-session-init
loop-session-init g c = (
  c.requires,
  refl,
  ap length c.in_ok-desks.ensures.items,
  omega arith,
  full_none _ _ _ c.in_ok-desks.ensures.items,
)

pub loop-session-preserved : goal.loop-session-preserved
loop-session-preserved g c =
    let up = c.loop-session.invariant in
    let count = up.2 in
    let long = ap length c.in_ok-push.ensures.items ∙ length-append c.loop-session.desks.items (c.in_ok-desk.desk ∷ []) in (
      c.first_boxes-boxes.ensures.others_short,
      one_less c.args.chest.items c.loop-session.chest.items _ c.loop-session._session _ up.1 c.first_boxes-boxes.ensures.others
          (omega arith),
      omega (arith, long, count),
      omega (arith, c.loop-session-test.true),
      full_push _ _ c.loop-session.desks.items _ c.in_ok-desk.desk c.loop-session._session c.in_ok-push.ensures.items count up.4
          (desk_chest _ c.args.chest.items c.loop-session.chest.items c.loop-session._session c.first_boxes-boxes.result.items _ up.1
          c.first_boxes-boxes.ensures.first c.in_ok-desk.ensures),
    )

pub returns-clause-full : goal.returns-clause-full
returns-clause-full g c = λ session below.
    let many = c.loop-session.invariant.2 in
    let most = c.loop-session.invariant.3 in
    c.loop-session.invariant.4 session (omega (arith, below, many, most, c.loop-session-test.false))
