use Rattle.std.proofs.Common.{ap, length, map, string_bytes, arith}
use Rattle.std.proofs.lemmas.List.{nil_from_length}
use Rattle.xl_script.specs.Lines.{line_of, lines_of}
use Rattle.xl_sessions.specs.Full.{most_made}
use Rattle.xl_studio.specs.Moments.{entries_in}
use Rattle.xl_studio.specs.Seats.{base_of, opening_shelf, front_of, known_by, made_of}
use Rattle.xl_sessions.proofs.Begun.{all_begun, cut_begun}
use Rattle.xl_sessions.proofs.Counts.{made_more}
use Rattle.xl_sessions.proofs.Fulls.{full_stop, stopped_at}
use Rattle.xl_sessions.proofs.Keeps.{keeps_same, keeps_on}
use Rattle.xl_sessions.proofs.Stops.{no_ok}
use Rattle.xl_sessions.proofs.UnderWay.{under_way_none, under_way_of, under_way_fit, under_way_more, under_way_all}
use Rattle.xl_sessions.proofs.setting.Setting.play_lines.Goals as goal

pub loop-line-init : goal.loop-line-init
loop-line-init g c =
    let can = c.requires.session in
    let none = ap length can.none in
    let whole = ap (λ ls. most_made (lines_of ls)) c.into_iter-line-iterator.ensures.into_iter_gives.0 in
    let way =
    under_way_none (base_of c.args.self.now.studio.now) c.args.self.now.session _ (lines_of c.args.lines.items)
    (lines_of c.into_iter-line-iterator.result.rest.items) (known_by c.args.seat.now) (map string_bytes c.args.digests.now.items)
    (ap lines_of c.into_iter-line-iterator.ensures.into_iter_gives.0)
    can.none can.unchanged c.requires.blank can.all can.fit in (
      keeps_same c.args.self.now.studio.now c.args.self.now.session c.args.seat.now can.seated (under_way_of way),
      way,
      omega (arith, none, whole),
    )

pub play_line-requires-clause-seat : goal.play_line-requires-clause-seat
play_line-requires-clause-seat g c κs within =
    let keeps = c.loop-line.invariant.0 in
    record { below = c.requires.session.below; seated = keeps.goes_on.seat; of = keeps.of }

pub play_line-requires-clause-fit : goal.play_line-requires-clause-fit
play_line-requires-clause-fit g c κs within =
    under_way_fit c.loop-line.invariant.1 (line_of c.in-Some.line) (lines_of c.next.new.self.rest.items)
    (ap lines_of c.in-Some.ensures.steps.0)

pub loop-line-preserved : goal.loop-line-preserved
loop-line-preserved g c =
    let line = c.in_ok-play_line.ensures in (
      keeps_on c.args.self.now.studio.now c.args.self.now.session c.args.seat.now c.loop-line.seat c.play_line.new.seat
          c.loop-line.invariant.0 line.keeps,
      under_way_more c.loop-line.invariant.1 g.D.Shelf.shelf_state
          (opening_shelf c.args.self.now.studio.now) (line_of c.in-Some.line) (lines_of c.next.new.self.rest.items)
          (ap lines_of c.in-Some.ensures.steps.0)
          _ (known_by c.play_line.new.seat) _ c.loop-line.invariant.0.goes_on.seat.front.legal line.keeps.goes_on.begins
          line.made,
      made_more (length (made_of c.loop-line.seat)) (length (made_of c.play_line.new.seat)) (lines_of c.args.lines.items)
          (lines_of c.loop-line.line-iterator.rest.items) (lines_of c.next.new.self.rest.items) (line_of c.in-Some.line)
          (ap lines_of c.in-Some.ensures.steps.0) c.loop-line.invariant.2 line.count,
    )

pub returns-in_err-play_line : goal.returns-in_err-play_line
returns-in_err-play_line g c =
    let line = c.in_err-play_line.ensures in
    let way = c.loop-line.invariant.1 in
    let all = lines_of c.args.lines.items in
    let left = lines_of c.loop-line.line-iterator.rest.items in
    let rest = lines_of c.next.new.self.rest.items in
    let turn = ap lines_of c.in-Some.ensures.steps.0 in
    let more =
    made_more (length (made_of c.loop-line.seat)) (length (made_of c.play_line.new.seat)) all left rest (line_of c.in-Some.line)
    turn c.loop-line.invariant.2 line.count in
    record {
      keeps = keeps_on c.args.self.now.studio.now c.args.self.now.session c.args.seat.now c.loop-line.seat c.play_line.new.seat
          c.loop-line.invariant.0 line.keeps;
      begun = cut_begun (known_by c.play_line.new.seat) all left rest (line_of c.in-Some.line) way.so_far way.lines turn line.begun;
      made = no_ok _ c.from_residual.result c.from_residual.ensures.0;
      told = no_ok _ c.from_residual.result c.from_residual.ensures.0;
      count = omega (arith, more);
      full = full_stop c.from_residual.result _ _ c.from_residual.ensures.1
          (λ so.
          stopped_at (known_by c.loop-line.seat) (known_by c.play_line.new.seat) all left rest (line_of c.in-Some.line) turn
          c.loop-line.invariant.2 (line.full so));
    }

pub returns : goal.returns
returns g c =
    let way = c.loop-line.invariant.1 in
    let up = c.loop-line.invariant.2 in
    let none = ap lines_of (nil_from_length _ (omega (arith, c.in-None.ensures.steps.0, c.loop-line.line-iterator.rest.ok))) in
    record {
      keeps = c.loop-line.invariant.0;
      begun = λ filters agrees. all_begun c.args.self.now.session filters (lines_of c.args.lines.items) (made_of c.loop-line.seat)
          (entries_in (front_of c.loop-line.seat)) (under_way_all way none filters agrees);
      made = under_way_all way none;
      told = way.so_far.told;
      count = omega (arith, up);
      full = tt;
    }
