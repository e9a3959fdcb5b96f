use Rattle.std.proofs.Common.{◌≡◌, ℕ, suc, ◌+◌, ◌-◌, ◌<◌, ◌≤◌, List, [], ◌∷◌, ◌++◌, Bor, length, map, take, drop, ap, ◌∙◌, arith}
use Rattle.std.proofs.Math.Nat.{add-sub_cancel_left}
use Rattle.std.proofs.lemmas.Bool.{eq-eqb, ne_eqb}
use Rattle.std.proofs.lemmas.List.{map_push}
use Rattle.spec_listing.specs.Parasites.{names_at}
use Rattle.xl_fields.specs.Gives.{text_of}
use Rattle.xl_listing.proofs.NamesRead.{at_end, refused, no_room, name_more, with_front}
use Rattle.xl_listing.proofs.parasites.payload_names.Goals as goal

abbrev so_far : List (Bor (List ℕ)) → List (List ℕ)
so_far names = map (λ n. n.now) names

one_more : (names more : List (Bor (List ℕ))) (one : Bor (List ℕ)) (name : List ℕ) → more ≡ names ++ one ∷ [] → one.now ≡ name
    → so_far more ≡ so_far names ++ name ∷ []
one_more names more one name is same = ap so_far is ∙ (map_push (λ n. n.now) names one ∙ ap (λ l. so_far names ++ l ∷ []) same)

pub returns-then-at-payload : goal.returns-then-at-payload
returns-then-at-payload c =
    let payload = c.args.payload.now in
    let read = c.loop-read._read in
    let within : read < length payload + 1 = c.loop-read-test.true in
    let more : suc (length payload) - read ≡ suc (length payload - read) = omega arith in
    at_end (so_far c.loop-read.names.items) (names_at (suc (length payload)) payload 0) (suc (length payload) - read) (length payload - read)
    payload c.loop-read.at more (eq-eqb c.loop-read.at (length payload) c.if-at-payload.true) c.loop-read.invariant

pub returns-in_default : goal.returns-in_default
returns-in_default c =
    let payload = c.args.payload.now in
    let read = c.loop-read._read in
    let within : read < length payload + 1 = c.loop-read-test.true in
    let more : suc (length payload) - read ≡ suc (length payload - read) = omega arith in
    ap so_far c.new.ensures.items
    ∙ refused (so_far c.loop-read.names.items) (names_at (suc (length payload)) payload 0) (suc (length payload) - read)
    (length payload - read) payload c.loop-read.at c.in_default.field-0
    more (ne_eqb c.loop-read.at (length payload) c.if-at-payload.false) c.in_default.ensures.read c.loop-read.invariant

pub loop-read-preserved : goal.loop-read-preserved
loop-read-preserved c =
    let payload = c.args.payload.now in
    let read = c.loop-read._read in
    let one = c.in-Ok.one in
    let within : read < length payload + 1 = c.loop-read-test.true in
    let more : suc (length payload) - read ≡ suc (suc (length payload) - (read + 1)) = omega arith in
    let named = one_more c.loop-read.names.items c.push.new.self.items _ (text_of payload one).name c.in_ok-push.ensures.items
    (ap (λ n. take n (drop one.start payload)) (add-sub_cancel_left one.start one.len)) in
    ap (λ front. with_front front (names_at (suc (length payload) - (read + 1)) payload one.next)) named
    ∙ (name_more (so_far c.loop-read.names.items) (suc (length payload) - read) (suc (length payload) - (read + 1)) payload
    c.loop-read.at (text_of payload one)
    more (ne_eqb c.loop-read.at (length payload) c.if-at-payload.false) c.in-Ok.ensures.read
    ∙ c.loop-read.invariant)

pub returns : goal.returns
returns c =
    let payload = c.args.payload.now in
    let read = c.loop-read._read in
    let all_read : length payload + 1 ≤ read = c.loop-read-test.false in
    let none : suc (length payload) - read ≡ 0 = omega arith in
    ap so_far c.new-2.ensures.items
    ∙ no_room (so_far c.loop-read.names.items) (names_at (suc (length payload)) payload 0) (suc (length payload) - read) payload c.loop-read.at
    none c.loop-read.invariant
