use Rattle.std.proofs.Common.{ap, ◌∙◌, arith}
use Rattle.xl_turn.specs.Sums.{times}
use Rattle.xl_turn.specs.Seats.{made_of}
use Rattle.xl_turn.proofs.Joining.{joins, compares, times_both}
use Rattle.xl_turn.proofs.seat.TurnLock.join.Goals as goal

pub join_seat-requires : goal.join_seat-requires
join_seat-requires g c = let is = c.into_inner.ensures in (
  c.requires.seat.0.0,
  ap (λ s. s.table_id) is ∙ c.requires.other.0.0,
  ap (λ s. s.me.1) is ∙ c.requires.other.1.1,
  omega (arith, c.args.self.now.sized.0),
  joins g.T.Chronicle.entries g.T.Chronicle.closes _ _ _ _ _ (ap (λ s. s.me.0.stage) is
      ∙ c.requires.other.1.0) c.args.seat.now.live,
)

pub load-requires : goal.load-requires
load-requires g c = (
  c.join_seat.ensures.0 ∙ c.requires.seat.0.0,
  omega (arith, c.args.self.now.sized.0),
  compares g.T.Chronicle.entries g.T.Chronicle.closes _ _ _ _
      (omega (arith, ap (λ m. m.0.weight) c.join_seat.ensures.2, c.args.seat.now.live)),
)

pub returns-clause-apart : goal.returns-clause-apart
returns-clause-apart g c = λ x. omega (
  arith,
  c.load.ensures.2.3 x,
  ap (λ m. times x m.0.made) c.join_seat.ensures.2,
  ap (λ s. times x s.me.0.made) c.into_inner.ensures,
  times_both x (made_of c.args.seat.now) c.into_inner.result.me.0.made,
)
