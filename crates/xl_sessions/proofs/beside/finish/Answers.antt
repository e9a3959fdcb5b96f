use Rattle.std.specs.Prelude.{is_none}
use Rattle.std.proofs.Common.{ℕ, List, ◌++◌, flat_map, string_bytes, ap, ◌∙◌, subst, arith}
use Rattle.spec_history.specs.Kept.{IsLegal}
use Rattle.xl_sessions.specs.Outcomes.{texts_of}
use Rattle.xl_sessions.specs.Players.{places_of}
use Rattle.xl_sessions.proofs.Finished.{none_full, out_is_none, all_printed, is_text, makes_front}
use Rattle.xl_sessions.proofs.PlayedParts.{all_seats, all_weights}
use Rattle.xl_studio.specs.Seats.{front_of, made_of}
use Rattle.xl_sessions.proofs.beside.finish.Goals as goal

pub join_players-stopped-requires-clause-seats : goal.join_players-stopped-requires-clause-seats
join_players-stopped-requires-clause-seats g c = λ κs within. all_seats c.args.studio c.args.players.items c.requires.players

pub close-core-requires-clause-weight : goal.close-core-requires-clause-weight
close-core-requires-clause-weight g c = λ κs within.
    let total = all_weights c.args.studio c.args.players.items c.requires.players in
    let first = c.join_players-stopped.ensures.weight in
    let then_all = c.join_workers.ensures.weight in
    let was = c.requires.weight in
    let eight = c.requires.eight in
    omega (arith, total, first, then_all, was, eight)

pub text_of-text-requires-clause-not_full : goal.text_of-text-requires-clause-not_full
text_of-text-requires-clause-not_full g c =
    let core = c.close-core.result in
    let joined = c.join_players-stopped in
    let last = c.join_workers in
    let closed = c.close-core.ensures in
    let none_made = ap (λ (ps : List ℕ). ps ++ flat_map places_of c.args.players.items) c.requires.none in
    joined.ensures.not_full
    (none_full c.args.studio c.args.players.items core (front_of joined.new.own) (front_of last.new.own) (made_of last.new.own)
    c.requires.eight c.requires.players joined.ensures.known last.ensures.begins closed.front
    (last.ensures.made ∙ joined.ensures.made ∙ none_made) closed.made c.requires.room)

pub text_of-text-requires-clause-printed : goal.text_of-text-requires-clause-printed
text_of-text-requires-clause-printed g c =
    let core = c.close-core.result in
    let joined = c.join_players-stopped in
    let last = c.join_workers in
    let closed = c.close-core.ensures in
    let none_made = ap (λ (ps : List ℕ). ps ++ flat_map places_of c.args.players.items) c.requires.none in
    all_printed c.args.studio c.args.players.items core (front_of joined.new.own) (front_of last.new.own) (made_of last.new.own)
    c.requires.eight c.requires.players joined.ensures.known last.ensures.begins closed.front
    (last.ensures.made ∙ joined.ensures.made ∙ none_made) closed.made c.requires.outcomes
    (subst (λ base. IsLegal base core.history.entries) closed.base closed.right.legal) (is_none joined.result) joined.ensures.done
    c.entries.result.now c.entries.ensures

pub returns-clause-inside : goal.returns-clause-inside
returns-clause-inside g c =
    let core = c.close-core.result in
    let joined = c.join_players-stopped in
    let last = c.join_workers in
    let closed = c.close-core.ensures in
    let none_made = ap (λ (ps : List ℕ). ps ++ flat_map places_of c.args.players.items) c.requires.none in
    c.know_shelf.ensures
    (out_is_none c.args.studio c.args.players.items core (front_of joined.new.own) (front_of last.new.own) (made_of last.new.own)
    c.requires.eight c.requires.players joined.ensures.known last.ensures.begins closed.front
    (last.ensures.made ∙ joined.ensures.made ∙ none_made) closed.made core.history.base)

pub returns-clause-front : goal.returns-clause-front
returns-clause-front g c =
    let core = c.close-core.result in
    let joined = c.join_players-stopped in
    let last = c.join_workers in
    let closed = c.close-core.ensures in
    let none_made = ap (λ (ps : List ℕ). ps ++ flat_map places_of c.args.players.items) c.requires.none in
    makes_front c.args.studio c.args.players.items core (front_of joined.new.own) (front_of last.new.own) (made_of last.new.own)
    c.requires.eight c.requires.players joined.ensures.known last.ensures.begins closed.front
    (last.ensures.made ∙ joined.ensures.made ∙ none_made) closed.made

pub returns-clause-text : goal.returns-clause-text
returns-clause-text g c =
    let core = c.close-core.result in
    let joined = c.join_players-stopped in
    let last = c.join_workers in
    let closed = c.close-core.ensures in
    let none_made = ap (λ (ps : List ℕ). ps ++ flat_map places_of c.args.players.items) c.requires.none in
    is_text c.args.studio c.args.players.items core (front_of joined.new.own) (front_of last.new.own) (made_of last.new.own)
    c.requires.eight c.requires.players joined.ensures.known last.ensures.begins closed.front
    (last.ensures.made ∙ joined.ensures.made ∙ none_made) closed.made
    c.text_of-text.result string_bytes (texts_of c.as_slice.result.now) (is_none joined.result)
    (subst (λ base. IsLegal base core.history.entries) closed.base closed.right.legal) joined.ensures.done
    (ap texts_of c.as_slice.ensures.value ∙ joined.ensures.digests) c.entries.result.now c.entries.ensures
    c.text_of-text.ensures.all c.text_of-text.ensures.text
