use Rattle.xl_sessions.proofs.Counts.{leave_room}
use Rattle.xl_sessions.proofs.PlayedParts.{of_sessions, outcomes, players_count}
use Rattle.std.proofs.Common.{◌∙◌}
use Rattle.xl_sessions.proofs.beside.play_opened.Goals as goal

pub finish-requires-clause-players : goal.finish-requires-clause-players
finish-requires-clause-players g c = λ κs within.
    of_sessions _ c.args.studio c.args.room.parts.items c.play_seated.new.room.players.items c.requires.fit c.play_seated.ensures.played

pub finish-requires-clause-eight : goal.finish-requires-clause-eight
finish-requires-clause-eight g c = λ κs within.
    players_count _ c.args.studio c.args.room.parts.items c.play_seated.new.room.players.items c.play_seated.ensures.played
    ∙ c.requires.room.eight

pub finish-requires-clause-outcomes : goal.finish-requires-clause-outcomes
finish-requires-clause-outcomes g c = λ κs within.
    let script = c.requires.script in (
      script.0,
      script.1,
      outcomes _ c.args.studio script.0 script.1 c.args.room.parts.items c.play_seated.new.room.players.items script.2
          c.play_seated.ensures.played,
    )

pub finish-requires-clause-room : goal.finish-requires-clause-room
finish-requires-clause-room g c = λ κs within.
    leave_room _ c.args.studio c.args.room.parts.items c.play_seated.new.room.players.items c.requires.calls c.play_seated.ensures.played

pub returns-clause-text : goal.returns-clause-text
returns-clause-text g c = λ chests lists brought.
    c.finish.ensures.text chests lists
    (outcomes _ c.args.studio chests lists c.args.room.parts.items c.play_seated.new.room.players.items brought
    c.play_seated.ensures.played)

pub returns-clause-front : goal.returns-clause-front
returns-clause-front g c = λ chests lists brought.
    c.finish.ensures.front chests lists
    (outcomes _ c.args.studio chests lists c.args.room.parts.items c.play_seated.new.room.players.items brought
    c.play_seated.ensures.played)
