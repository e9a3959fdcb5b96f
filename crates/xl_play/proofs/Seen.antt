-- What session 0 alone has seen: after each entry the version that stands then.
use Rattle.std.proofs.Common.{◌≡◌, ℕ, ◌+◌, ◌<◌, Bool, true, false, cond, List, [], ◌∷◌, ◌++◌, sym, ◌∙◌, ap, subst}
use Rattle.std.proofs.Common.{arith, eq-eqb, ne_eqb}
use Rattle.std.specs.Prelude.{◌==◌, MatchBool}
use Rattle.spec_history.specs.History.{Entry, is_changed, latest_of}
use Rattle.spec_history.specs.Kept.{IsFreshReply, IsFreshFrom, IsFresh}
use Rattle.spec_history.proofs.Growing.{latest_of-cons}
use Rattle.xl_play.specs.Playing.{AreOf}

counted : (b : Bool) (now n : ℕ) → cond b (now + 1) now + n ≡ now + (cond b 1 0 + n)
counted true now n = omega arith
counted false now n = omega arith

-- the version after an entry, and those behind it
then_more : (now : ℕ) (e : Entry) (es : List Entry)
    → cond (is_changed e.reply) (now + 1) now + latest_of es ≡ now + latest_of (e ∷ es)
then_more now e es = counted (is_changed e.reply) now (latest_of es) ∙ ap (λ n. now + n) (sym (latest_of-cons e es))

where_true : (b : Bool) (P Q : Type 0) → b ≡ true → P → MatchBool b P Q
where_true true P Q is p = p
where_true false P Q is p = let bad : false ≡ true = is in cc

of_true : (b : Bool) (P Q : Type 0) → b ≡ true → MatchBool b P Q → P
of_true true P Q is p = p
of_true false P Q is p = let bad : false ≡ true = is in cc

where_false : (b : Bool) (P Q : Type 0) → b ≡ false → Q → MatchBool b P Q
where_false true P Q is q = let bad : true ≡ false = is in cc
where_false false P Q is q = q

-- ---- the session itself

fresh_from : (now : ℕ) (es : List Entry) (e : Entry) → AreOf 0 es → e.session ≡ 0 → IsFreshFrom 0 now now es
    → IsFreshReply (now + latest_of es) e.reply → IsFreshFrom 0 now now (es ++ e ∷ [])
fresh_from now [] e own is fresh reply =
    let all : now + latest_of [] ≡ now = omega arith in
    where_true (e.session == 0) (IsFreshReply now e.reply × Unit {0}) (Unit {0}) (eq-eqb e.session 0 is)
    (subst (λ n. IsFreshReply n e.reply) all reply, tt)
fresh_from now (x ∷ es) e own is fresh reply =
    let then_is = cond (is_changed x.reply) (now + 1) now in
    let mine = eq-eqb x.session 0 own.0 in
    let here =
    of_true (x.session == 0) (IsFreshReply now x.reply × IsFreshFrom 0 then_is then_is es) (IsFreshFrom 0 then_is now es) mine
    fresh in
    where_true (x.session == 0) (IsFreshReply now x.reply × IsFreshFrom 0 then_is then_is (es ++ e ∷ []))
    (IsFreshFrom 0 then_is now (es ++ e ∷ [])) mine (
      here.0,
      fresh_from then_is es e own.1 is here.1 (subst (λ n. IsFreshReply n e.reply) (sym (then_more now x es)) reply),
    )

-- one entry more
pub fresh_more : (es : List Entry) (e : Entry) → AreOf 0 es → e.session ≡ 0 → IsFresh es 0 → IsFreshReply (latest_of es) e.reply
    → IsFresh (es ++ e ∷ []) 0
fresh_more es e own is fresh reply =
    let all : latest_of es ≡ 0 + latest_of es = omega arith in
    fresh_from 0 es e own is fresh (subst (λ n. IsFreshReply n e.reply) all reply)

-- ---- the other sessions, which have no entry

other_from : (session now seen : ℕ) (es : List Entry) → AreOf 0 es → 0 < session → IsFreshFrom session now seen es
other_from session now seen [] own some = tt
other_from session now seen (e ∷ es) own some =
    let then_is = cond (is_changed e.reply) (now + 1) now in
    let here = own.0 in
    where_false (e.session == session) (IsFreshReply seen e.reply × IsFreshFrom session then_is then_is es)
    (IsFreshFrom session then_is seen es) (ne_eqb e.session session (λ q. omega (arith, q, here, some)))
    (other_from session then_is seen es own.1 some)

pub fresh_other : (es : List Entry) (session : ℕ) → AreOf 0 es → 0 < session → IsFresh es session
fresh_other es session own some = other_from session 0 0 es own some
