use Rattle.xl_studio.specs.Seats.{front_of}
use Rattle.xl_sessions.proofs.PlayedParts.{seated_same, lent_can_play, lent_have_played}
use Rattle.xl_sessions.proofs.beside.play_seated.Goals as goal

pub run-requires-clause-players : goal.run-requires-clause-players
run-requires-clause-players g c = λ κs within.
    lent_can_play _ c.args.studio.now (front_of c.args.own.now) c.args.room.now.parts.items c.seat_players.new.players.items
    c.as_mut_slice.result.now c.as_mut_slice.ensures.value c.requires.unchanged c.requires.room.eight c.requires.fit
    (seated_same c.args.studio.now (front_of c.args.own.now) c.replace-parts.result c.args.room.now.parts
    c.seat_players.new.players.items c.replace-parts.ensures.value c.seat_players.ensures.seated)

pub returns-clause-played : goal.returns-clause-played
returns-clause-played g c =
    lent_have_played _ c.args.studio.now (front_of c.args.own.now) c.args.room.now.parts.items c.seat_players.new.players.items
    c.as_mut_slice.result.now c.run.new.players _ c.as_mut_slice.ensures.value c.run.auto.players c.as_mut_slice.ensures.len
    (seated_same c.args.studio.now (front_of c.args.own.now) c.replace-parts.result c.args.room.now.parts
    c.seat_players.new.players.items c.replace-parts.ensures.value c.seat_players.ensures.seated)
    c.run.ensures.played
