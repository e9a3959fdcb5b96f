-- The entries at some places, as the history grows behind them.
use Rattle.std.proofs.Common.{◌≡◌, ℕ, suc, ◌+◌, ◌<◌, ◌≤◌, Bool, true, false, cond, List, [], ◌∷◌, ◌++◌, length, refl}
use Rattle.std.proofs.Common.{sym, ◌∙◌, ap, subst, arith, append-nil}
use Rattle.std.specs.Prelude.{MatchBool}
use Rattle.std.specs.List.{AllByRecursion}
use Rattle.spec_history.specs.History.{Entry, is_changed, latest_of}
use Rattle.spec_history.specs.Kept.{IsFreshReply}
use Rattle.spec_history.proofs.Growing.{latest_of-cons, latest_of-snoc}
use Rattle.spec_seats.specs.Picked.{is_at, picked_from, picked, seen_from, seen_at, IsFreshAtFrom, IsFreshAt, IsCaughtUp}
use Rattle.spec_seats.proofs.Places.{at_past, at_last, at_other, all_later}

-- ---- what is picked

cond_append : (b : Bool) (e : Entry) (xs ys : List Entry) → cond b (e ∷ (xs ++ ys)) (xs ++ ys) ≡ cond b (e ∷ xs) xs ++ ys
cond_append true e xs ys = refl
cond_append false e xs ys = refl

picked_from-append : (at : ℕ) (places : List ℕ) (es more : List Entry)
    → picked_from at places (es ++ more) ≡ picked_from at places es ++ picked_from (at + length es) places more
picked_from-append at places [] more = let z : at ≡ at + 0 = omega arith in ap (λ n. picked_from n places more) z
picked_from-append at places (e ∷ es) more =
    let s : at + 1 + length es ≡ at + suc (length es) = omega arith in
    let rest = picked_from-append (at + 1) places es more in
    ap (λ xs. cond (is_at at places) (e ∷ xs) xs) (rest ∙ ap (λ n. picked_from (at + 1) places es ++ picked_from n places more) s)
    ∙ cond_append (is_at at places) e (picked_from (at + 1) places es) (picked_from (at + suc (length es)) places more)

picked_past : (at : ℕ) (places : List ℕ) (es : List Entry) → AllByRecursion (λ p. p < at) places → picked_from at places es ≡ []
picked_past at places [] past = refl
picked_past at places (e ∷ es) past =
    ap (λ b. cond b (e ∷ picked_from (at + 1) places es) (picked_from (at + 1) places es)) (at_past at places past)
    ∙ picked_past (at + 1) places es (all_later at (at + 1) places (omega arith) past)

-- a place behind the entries picks none of them
picked_before : (at : ℕ) (places : List ℕ) (p : ℕ) (es : List Entry) → at + length es ≤ p
    → picked_from at (places ++ p ∷ []) es ≡ picked_from at places es
picked_before at places p [] le = refl
picked_before at places p (e ∷ es) le =
    ap (λ b. cond b (e ∷ picked_from (at + 1) (places ++ p ∷ []) es) (picked_from (at + 1) (places ++ p ∷ []) es))
    (at_other at p places (λ q. omega (arith, q, le)))
    ∙ ap (λ xs. cond (is_at at places) (e ∷ xs) xs) (picked_before (at + 1) places p es (omega (arith, le)))

pub picked-grows : (places : List ℕ) (es more : List Entry) → AllByRecursion (λ p. p < length es) places
    → picked places (es ++ more) ≡ picked places es
picked-grows places es more within =
    let z : length es ≡ 0 + length es = omega arith in
    let none = picked_past (0 + length es) places more (subst (λ n. AllByRecursion (λ p. p < n) places) z within) in
    picked_from-append 0 places es more ∙ ap (λ xs. picked places es ++ xs) none ∙ append-nil (picked places es)

-- the entry behind the others is picked last
pub picked-last : (places : List ℕ) (es : List Entry) (e : Entry)
    → picked (places ++ length es ∷ []) (es ++ e ∷ []) ≡ picked places es ++ e ∷ []
picked-last places es e =
    let p = length es in
    let z : length es ≡ 0 + length es = omega arith in
    picked_from-append 0 (places ++ p ∷ []) es (e ∷ [])
    ∙ ap (λ xs. xs ++ picked_from (0 + p) (places ++ p ∷ []) (e ∷ [])) (picked_before 0 places p es (omega arith))
    ∙ ap (λ n. picked places es ++ cond (is_at n (places ++ p ∷ [])) (e ∷ []) []) (sym z)
    ∙ ap (λ b. picked places es ++ cond b (e ∷ []) []) (at_last places p)

pub picked-none : (at : ℕ) (es : List Entry) → picked_from at [] es ≡ []
picked-none at es = picked_past at [] es tt

-- ---- what was seen

counted : (b : Bool) (now n : ℕ) → cond b (now + 1) now + n ≡ now + (cond b 1 0 + n)
counted true now n = omega arith
counted false now n = omega arith

then_more : (now : ℕ) (e : Entry) (es : List Entry)
    → cond (is_changed e.reply) (now + 1) now + latest_of es ≡ now + latest_of (e ∷ es)
then_more now e es = counted (is_changed e.reply) now (latest_of es) ∙ ap (λ n. now + n) (sym (latest_of-cons e es))

seen_from-append : (at : ℕ) (places : List ℕ) (now seen : ℕ) (es more : List Entry)
    → seen_from at places now seen (es ++ more)
    ≡ seen_from (at + length es) places (now + latest_of es) (seen_from at places now seen es) more
seen_from-append at places now seen [] more =
    let z : at ≡ at + 0 = omega arith in
    let n : now ≡ now + latest_of [] = omega arith in
    λ i. seen_from (z i) places (n i) seen more
seen_from-append at places now seen (e ∷ es) more =
    let s : at + 1 + length es ≡ at + suc (length es) = omega arith in
    let then_is = cond (is_changed e.reply) (now + 1) now in
    let then_seen = cond (is_at at places) then_is seen in
    let n = then_more now e es in
    seen_from-append (at + 1) places then_is then_seen es more
    ∙ (λ i. seen_from (s i) places (n i) (seen_from (at + 1) places then_is then_seen es) more)

seen_past : (at : ℕ) (places : List ℕ) (now seen : ℕ) (es : List Entry) → AllByRecursion (λ p. p < at) places
    → seen_from at places now seen es ≡ seen
seen_past at places now seen [] past = refl
seen_past at places now seen (e ∷ es) past =
    let then_is = cond (is_changed e.reply) (now + 1) now in
    ap (λ b. seen_from (at + 1) places then_is (cond b then_is seen) es) (at_past at places past)
    ∙ seen_past (at + 1) places then_is seen es (all_later at (at + 1) places (omega arith) past)

pub seen-none : (es : List Entry) → seen_at [] es ≡ 0
seen-none es = seen_past 0 [] 0 0 es tt

-- what was seen stays, whatever comes behind
pub seen-grows : (places : List ℕ) (es more : List Entry) → AllByRecursion (λ p. p < length es) places
    → seen_at places (es ++ more) ≡ seen_at places es
seen-grows places es more within =
    let z : length es ≡ 0 + length es = omega arith in
    seen_from-append 0 places 0 0 es more
    ∙ seen_past (0 + length es) places (0 + latest_of es) (seen_at places es) more
    (subst (λ n. AllByRecursion (λ p. p < n) places) z within)

-- after an entry of its own, it has seen the last version
pub seen-last : (places : List ℕ) (es : List Entry) (e : Entry) → IsCaughtUp (places ++ length es ∷ []) (es ++ e ∷ [])
seen-last places es e =
    let p = length es in
    let z : 0 + length es ≡ length es = omega arith in
    let now = 0 + latest_of es in
    let then_is = cond (is_changed e.reply) (now + 1) now in
    let seen = seen_from 0 (places ++ p ∷ []) 0 0 es in
    seen_from-append 0 (places ++ p ∷ []) 0 0 es (e ∷ [])
    ∙ ap (λ n. cond (is_at n (places ++ p ∷ [])) then_is seen) z
    ∙ ap (λ b. cond b then_is seen) (at_last places p)
    ∙ last (is_changed e.reply) (latest_of es) (latest_of (es ++ e ∷ [])) (latest_of-snoc es e)
  where
    last : (b : Bool) (n m : ℕ) → m ≡ n + cond b 1 0 → cond b (0 + n + 1) (0 + n) ≡ m
    last true n m is = omega (arith, is)
    last false n m is = omega (arith, is)

-- ---- fresh replies

match_true : (b : Bool) (P Q : Type 0) → b ≡ true → P → MatchBool b P Q
match_true true P Q is p = p
match_true false P Q is p = cc

match_false : (b : Bool) (P Q : Type 0) → b ≡ false → Q → MatchBool b P Q
match_false true P Q is q = cc
match_false false P Q is q = q

pub match_map : (b c : Bool) {P Q P' Q' : Type 0} → c ≡ b → (P → P') → (Q → Q') → MatchBool b P Q → MatchBool c P' Q'
match_map true true is f g h = f h
match_map true false is f g h = cc
match_map false true is f g h = cc
match_map false false is f g h = g h

-- entries behind all places are not looked at
fresh_past : (at : ℕ) (places : List ℕ) (now seen : ℕ) (es : List Entry) → AllByRecursion (λ p. p < at) places
    → IsFreshAtFrom at places now seen es
fresh_past at places now seen [] past = tt
fresh_past at places now seen (e ∷ es) past =
    let then_is = cond (is_changed e.reply) (now + 1) now in
    match_false (is_at at places) (IsFreshReply seen e.reply
    × IsFreshAtFrom (at + 1) places then_is then_is es) (IsFreshAtFrom (at + 1) places then_is seen es)
    (at_past at places past) (fresh_past (at + 1) places then_is seen es (all_later at (at + 1) places (omega arith) past))

fresh_step : (b : Bool) {P Q P' Q' : Type 0} (R : ℕ → Type 0) (x y : ℕ) → (P → R x → P') → (Q → R y → Q') → MatchBool b P Q
    → R (cond b x y) → MatchBool b P' Q'
fresh_step true R x y f g h r = f h r
fresh_step false R x y f g h r = g h r

fresh_append : (at : ℕ) (places : List ℕ) (now seen : ℕ) (es more : List Entry) → IsFreshAtFrom at places now seen es
    → IsFreshAtFrom (at + length es) places (now + latest_of es) (seen_from at places now seen es) more
    → IsFreshAtFrom at places now seen (es ++ more)
fresh_append at places now seen [] more fresh behind =
    let z : at + 0 ≡ at = omega arith in
    let n : now + latest_of [] ≡ now = omega arith in
    subst (λ a. IsFreshAtFrom a places now seen more) z (subst (λ k. IsFreshAtFrom (at + 0) places k seen more) n behind)
fresh_append at places now seen (e ∷ es) more fresh behind =
    let then_is = cond (is_changed e.reply) (now + 1) now in
    let s : at + suc (length es) ≡ at + 1 + length es = omega arith in
    let n = sym (then_more now e es) in
    let at_next : IsFreshAtFrom (at + 1 + length es) places (then_is + latest_of es)
    (seen_from (at + 1) places then_is (cond (is_at at places) then_is seen) es) more =
    subst (λ a. IsFreshAtFrom a places (then_is + latest_of es)
    (seen_from (at + 1) places then_is (cond (is_at at places) then_is seen) es) more) s
    (subst (λ k. IsFreshAtFrom (at + suc (length es)) places k
    (seen_from (at + 1) places then_is (cond (is_at at places) then_is seen) es) more) n behind) in
    fresh_step (is_at at places)
    {P = IsFreshReply seen e.reply × IsFreshAtFrom (at + 1) places then_is then_is es} {Q =
    IsFreshAtFrom (at + 1) places then_is seen es}
    {P' = IsFreshReply seen e.reply × IsFreshAtFrom (at + 1) places then_is then_is (es ++ more)} {Q' =
    IsFreshAtFrom (at + 1) places then_is seen (es ++ more)}
    (λ k. IsFreshAtFrom (at + 1 + length es) places (then_is + latest_of es) (seen_from (at + 1) places then_is k es) more) then_is
    seen
    (λ h b. (h.0, fresh_append (at + 1) places then_is then_is es more h.1 b))
    (λ h b. fresh_append (at + 1) places then_is seen es more h b)
    fresh at_next

pub fresh-grows : (places : List ℕ) (es more : List Entry) → AllByRecursion (λ p. p < length es) places → IsFreshAt places es
    → IsFreshAt places (es ++ more)
fresh-grows places es more within fresh =
    let z : length es ≡ 0 + length es = omega arith in
    fresh_append 0 places 0 0 es more fresh
    (fresh_past (0 + length es) places (0 + latest_of es) (seen_at places es) more
    (subst (λ n. AllByRecursion (λ p. p < n) places) z within))

fresh_before : (at : ℕ) (places : List ℕ) (p now seen : ℕ) (es : List Entry) → at + length es ≤ p
    → IsFreshAtFrom at places now seen es → IsFreshAtFrom at (places ++ p ∷ []) now seen es
fresh_before at places p now seen [] le fresh = tt
fresh_before at places p now seen (e ∷ es) le fresh =
    let then_is = cond (is_changed e.reply) (now + 1) now in
    match_map (is_at at places) (is_at at (places ++ p ∷ []))
    {P = IsFreshReply seen e.reply × IsFreshAtFrom (at + 1) places then_is then_is es} {Q =
    IsFreshAtFrom (at + 1) places then_is seen es}
    {P' = IsFreshReply seen e.reply × IsFreshAtFrom (at + 1) (places ++ p ∷ []) then_is then_is es} {Q' =
    IsFreshAtFrom (at + 1) (places ++ p ∷ []) then_is seen es}
    (at_other at p places (λ q. omega (arith, q, le)))
    (λ h. (h.0, fresh_before (at + 1) places p then_is then_is es (omega (arith, le)) h.1))
    (λ h. fresh_before (at + 1) places p then_is seen es (omega (arith, le)) h)
    fresh

seen_before : (at : ℕ) (places : List ℕ) (p now seen : ℕ) (es : List Entry) → at + length es ≤ p
    → seen_from at (places ++ p ∷ []) now seen es ≡ seen_from at places now seen es
seen_before at places p now seen [] le = refl
seen_before at places p now seen (e ∷ es) le =
    let then_is = cond (is_changed e.reply) (now + 1) now in
    ap (λ b. seen_from (at + 1) (places ++ p ∷ []) then_is (cond b then_is seen) es)
    (at_other at p places (λ q. omega (arith, q, le)))
    ∙ seen_before (at + 1) places p then_is (cond (is_at at places) then_is seen) es (omega (arith, le))

pub fresh-last : (places : List ℕ) (es : List Entry) (e : Entry) → IsFreshAt places es → IsFreshReply (seen_at places es) e.reply
    → IsFreshAt (places ++ length es ∷ []) (es ++ e ∷ [])
fresh-last places es e fresh reply =
    let p = length es in
    let z : 0 + length es ≡ length es = omega arith in
    let now = 0 + latest_of es in
    let then_is = cond (is_changed e.reply) (now + 1) now in
    let seen = seen_from 0 (places ++ p ∷ []) 0 0 es in
    let here : IsFreshReply seen e.reply =
    subst (λ n. IsFreshReply n e.reply) (sym (seen_before 0 places p 0 0 es (omega arith))) reply in
    fresh_append 0 (places ++ p ∷ []) 0 0 es (e ∷ []) (fresh_before 0 places p 0 0 es (omega arith) fresh)
    (match_true (is_at (0 + length es) (places ++ p ∷ [])) (IsFreshReply seen e.reply × Unit {0}) (Unit {0})
    (ap (λ n. is_at n (places ++ p ∷ [])) z ∙ at_last places p) (here, tt))
