use Rattle.std.proofs.Common.{◌∙◌}
use Rattle.xl_sessions.specs.Players.{in_slots}
use Rattle.xl_sessions.proofs.Plays.{has_played, lines_fit}
use Rattle.xl_sessions.proofs.threads.play.Goals as goal

pub play_session-played-requires-clause-session : goal.play_session-played-requires-clause-session
play_session-played-requires-clause-session g c = λ κs within.
    let can = c.requires in
    record {
      below = can.below;
      seated = can.seat;
      none = can.none;
      unchanged = can.unchanged;
      all = can.all;
      fit = lines_fit _ c.replace-lines.result _ c.replace-lines.ensures.value can.fit;
    }

pub returns : goal.returns
returns g c =
    let played = c.play_session-played.ensures in
    has_played (in_slots (λ b. (goal.PointFilter-dyn g b).state b.1))
    c.args.studio.now c.args.player.now.part _ _ c.replace-lines.result c.play_session-played.result
    c.replace-lines.ensures.value c.err-player.ensures.value played.keeps.goes_on.seat
    played.keeps.goes_on.weight (played.keeps.goes_on.job ∙ c.requires.free) played.keeps.of
    played.begun played.made played.told played.count played.full
