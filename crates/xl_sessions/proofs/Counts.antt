-- The sessions of a script make no more entries than a history may have, so none of them finds it full.
use Rattle.std.proofs.Common.{◌≡◌, ℕ, zero, suc, ◌+◌, ◌*◌, ◌<◌, ◌≤◌, cond, Bool, List, [], ◌∷◌, ◌++◌, length, drop, flat_map}
use Rattle.std.proofs.Common.{Some, inl, inr, refl, ap, ◌∙◌, arith, length-append}
use Rattle.std.proofs.lemmas.Bool.{lt-ltb, cases_lt}
use Rattle.std.proofs.lemmas.List.Concat.{flat_map-cons}
use Rattle.std.specs.List.{AllByRecursion}
use Rattle.spec_filters.specs.declared.FilterState.{FilterState}
use Rattle.spec_history.specs.declared.TheConstants.{MAX_ENTRIES}
use Rattle.spec_script.specs.Fits.{count_calls}
use Rattle.spec_script.specs.Script.{Line, call, save, forget, list_at}
use Rattle.spec_script.specs.declared.TheConstants.{MAX_CALLS}
use Rattle.spec_text.specs.Text.{calls_of}
use Rattle.spec_text.proofs.CallsWithin.{calls_are}
use Rattle.xl_filters.specs.declared.chest.Slot.{Slot}
use Rattle.xl_sessions.specs.Full.{most_made, IsNotFull}
use Rattle.xl_sessions.specs.Players.{AreBrought, count_of, HaveFewCalls, HavePlayed, LeaveRoom, most_of, places_of}
use Rattle.xl_sessions.specs.declared.players.SessionPart.{SessionPart}
use Rattle.xl_sessions.specs.declared.players.Player.{Player}
use Rattle.xl_run.specs.declared.unplayed.Unplayed.TheVariants.{HistoryFull}
use Rattle.xl_studio.specs.declared.moment.Moment.{Moment}
use Rattle.xl_studio.specs.declared.seat.Seat.{Seat}
use Rattle.xl_studio.specs.declared.seat.Studio.{Studio}
use Rattle.xl_studio.specs.Moments.{entries_in}
use Rattle.xl_studio.specs.Seats.{front_of}
use Rattle.xl_studio.specs.State.{State}
use Rattle.xl_turn.specs.declared.view.Chronicle.{Ghosts}
use Rattle.xl_turn.specs.Seats.{IsEachOnce}
use Rattle.xl_turn.specs.Sums.{total, times, same}
use Rattle.xl_turn.proofs.Totals.{same_le, same_false}

-- ---- a list in which each number below n stands once

abbrev sum_below : (f : ℕ → ℕ) → ℕ → ℕ
sum_below f zero = 0
sum_below f (suc n) = sum_below f n + f n

sum_both : (f g h : ℕ → ℕ) (n : ℕ) → ((x : ℕ) → f x ≡ g x + h x) → sum_below f n ≡ sum_below g n + sum_below h n
sum_both f g h zero each = omega arith
sum_both f g h (suc n) each = let rest = sum_both f g h n each in let here = each n in omega (arith, rest, here)

sum_zero : (n : ℕ) → sum_below (λ x. 0) n ≡ 0
sum_zero zero = refl
sum_zero (suc n) = let rest = sum_zero n in omega (arith, rest)

sum_ones : (f : ℕ → ℕ) (n : ℕ) → ((x : ℕ) → x < n → f x ≡ 1) → sum_below f n ≡ n
sum_ones f zero each = refl
sum_ones f (suc n) each =
    let rest = sum_ones f n (λ x lt. each x (omega (arith, lt))) in let here = each n (omega arith) in omega (arith, rest, here)

-- one number is counted once at most
not_yet : (y n : ℕ) → n ≤ y → sum_below (λ x. same x y) n ≡ 0
not_yet y zero le = refl
not_yet y (suc n) le =
    let rest = not_yet y n (omega (arith, le)) in
    let here : same n y ≡ 0 = same_false n y (λ is. omega (arith, is, le)) in
    omega (arith, rest, here)

at_most_once : (y n : ℕ) → sum_below (λ x. same x y) n ≤ 1
at_most_once y zero = omega arith
at_most_once y (suc n) = elim (cases_lt y n) [
  | inl less ↦
      let rest = at_most_once y n in
      let here : same n y ≡ 0 = same_false n y (λ is. omega (arith, is, less)) in
      omega (arith, rest, here)
  | inr more ↦ let rest = not_yet y n more in let here = same_le n y in omega (arith, rest, here)
]

counted : (n : ℕ) (xs : List ℕ) → sum_below (λ x. times x xs) n ≤ length xs
counted n [] = let none : sum_below (λ x. times x []) n ≡ 0 = sum_zero n in omega (arith, none)
counted n (y ∷ ys) =
    let split : sum_below (λ x. times x (y ∷ ys)) n ≡ sum_below (λ x. same x y) n + sum_below (λ x. times x ys) n =
    sum_both (λ x. times x (y ∷ ys)) (λ x. same x y) (λ x. times x ys) n (λ x. refl) in
    let here = at_most_once y n in
    let rest = counted n ys in
    omega (arith, split, here, rest)

pub at_most_length : (n : ℕ) (xs : List ℕ) → IsEachOnce n xs → n ≤ length xs
at_most_length n xs once =
    let ones : sum_below (λ x. times x xs) n ≡ n =
    sum_ones (λ x. times x xs) n (λ x lt. once x ∙ ap (λ (b : Bool). cond b 1 0) (lt-ltb x n lt)) in
    let most = counted n xs in
    omega (arith, ones, most)

-- ---- along the lines of a session

most_cons : (line : Line) (rest : List Line) → most_made (line ∷ rest) ≡ most_made (line ∷ []) + most_made rest
most_cons (call c) rest = omega arith
most_cons save rest = omega arith
most_cons (forget slot) rest = omega arith

-- after a line, whether it was made or not
pub made_more : (old new : ℕ) (all left rest : List Line) (line : Line) → left ≡ line ∷ rest → old + most_made left ≤ most_made all
    → new ≤ old + most_made (line ∷ []) → new + most_made rest ≤ most_made all
made_more old new all left rest line turn up more =
    let whole = ap most_made turn in let split = most_cons line rest in omega (arith, whole, split, up, more)

-- ---- by the script

drop_count : (lists : List (List Line)) (n : ℕ)
    → length (calls_of (list_at lists n)) + count_calls (drop (suc n) lists) ≡ count_calls (drop n lists)
drop_count [] zero = refl
drop_count [] (suc n) = refl
drop_count (lines ∷ lists) zero = ap (λ (k : ℕ). k + count_calls lists) (ap length (calls_are lines))
drop_count (lines ∷ lists) (suc n) = drop_count lists n

module _ {X : Type 0} {H : X → Type 0} where
  parts_from : (state : Slot X H → FilterState) (chests : List (List FilterState)) (lists : List (List Line)) (first : ℕ)
      (ps : List (SessionPart X H)) → AreBrought state chests lists first ps → total most_of ps ≤ 2 * count_calls (drop first lists)
  parts_from state chests lists first [] brought = omega arith
  parts_from state chests lists first (p ∷ ps) brought =
      let here : most_of p ≡ 2 * length (calls_of (list_at lists first)) = ap most_made brought.0.lines_are in
      let rest = parts_from state chests lists (suc first) ps brought.1 in
      let split = drop_count lists first in
      omega (arith, here, rest, split)

  pub parts_few : (state : Slot X H → FilterState) (chests : List (List FilterState)) (lists : List (List Line))
      (ps : List (SessionPart X H)) → AreBrought state chests lists 0 ps → count_calls lists ≤ MAX_CALLS → HaveFewCalls ps
  parts_few state chests lists ps brought few =
      let most = parts_from state chests lists 0 ps brought in omega (arith, most, few)

-- ---- all sessions together

module _ {K : Type 0} {C : Ghosts (State K) (Moment K)} {X : Type 0} {H : X → Type 0} where
  played_most : (state : Slot X H → FilterState) (studio : Studio K) (parts : List (SessionPart X H))
      (players : List (Player (Seat K C) X H)) → HavePlayed state studio parts players → total count_of players ≤ total most_of parts
  played_most state studio [] [] played = omega arith
  played_most state studio [] (p ∷ players) played = absurd played
  played_most state studio (part ∷ parts) [] played = absurd played
  played_most state studio (part ∷ parts) (p ∷ players) played =
      let here : count_of p ≤ most_of part = played.0.count in
      let rest = played_most state studio parts players played.1 in
      omega (arith, here, rest)

  -- behind sessions that have made a entries, of b at most
  room_behind : (state : Slot X H → FilterState) (studio : Studio K) (a b whole most : ℕ) (parts : List (SessionPart X H))
      (players : List (Player (Seat K C) X H))
      → a ≤ b → whole ≡ a + total count_of players → most ≡ b + total most_of parts → most ≤ MAX_ENTRIES
      → HavePlayed state studio parts players
      → AllByRecursion (λ (p : Player (Seat K C) X H). p.stopped ≡ Some HistoryFull
      → (whole + 2 ≤ MAX_ENTRIES) × (MAX_ENTRIES < length (entries_in (front_of p.seat)) + 2)) players
  room_behind state studio a b whole most [] [] le made is few played = tt
  room_behind state studio a b whole most [] (p ∷ players) le made is few played = absurd played
  room_behind state studio a b whole most (part ∷ parts) [] le made is few played = absurd played
  room_behind state studio a b whole most (part ∷ parts) (p ∷ players) le made is few played =
      let here : count_of p ≤ most_of part = played.0.count in (
        (λ stopped.
            let fewer : count_of p + 2 ≤ most_of part = (played.0.full stopped).fewer in
            let rest = played_most state studio parts players played.1 in
            (omega (arith, le, made, is, few, fewer, rest), (played.0.full stopped).full)),
        room_behind state studio (a + count_of p) (b + most_of part) whole most parts players (omega (arith, le, here))
            (omega (arith, made)) (omega (arith, is)) few played.1,
      )

  pub leave_room : (state : Slot X H → FilterState) (studio : Studio K) (parts : List (SessionPart X H))
      (players : List (Player (Seat K C) X H)) → HaveFewCalls parts → HavePlayed state studio parts players → LeaveRoom players
  leave_room state studio parts players few played =
      room_behind state studio 0 0 (total count_of players) (total most_of parts) parts players (omega arith) (omega arith)
      (omega arith) few played

  pub places_count : (players : List (Player (Seat K C) X H)) → length (flat_map places_of players) ≡ total count_of players
  places_count [] = refl
  places_count (p ∷ players) =
      let rest = places_count players in
      let split = ap length (flat_map-cons places_of p players) ∙ length-append (places_of p) (flat_map places_of players) in
      omega (arith, rest, split)

  -- where a session found the history full, there would be more entries than were made
  pub not_full_each : (whole n : ℕ) (players : List (Player (Seat K C) X H)) → n ≤ whole
      → AllByRecursion (λ (p : Player (Seat K C) X H). length (entries_in (front_of p.seat)) ≤ n) players
      → AllByRecursion (λ (p : Player (Seat K C) X H). p.stopped ≡ Some HistoryFull
      → (whole + 2 ≤ MAX_ENTRIES) × (MAX_ENTRIES < length (entries_in (front_of p.seat)) + 2)) players
      → AllByRecursion (λ (p : Player (Seat K C) X H). IsNotFull p.stopped) players
  not_full_each whole n [] le fronts room = tt
  not_full_each whole n (p ∷ players) le fronts room = (
    (λ stopped. let both = room.0 stopped in let fewer = both.0 in let full = both.1 in let front = fronts.0 in
        omega (arith, le, fewer, full, front)),
    not_full_each whole n players le fronts.1 room.1,
  )
