-- A session's place in a history that grows by an entry.
use Rattle.std.proofs.Common.{◌≡◌, ℕ, ◌≤◌, ◌+◌, Bool, true, false, cond, List, [], ◌∷◌, ◌++◌, refl, sym, ap, ◌∙◌, subst, arith, eq-eqb, ne_eqb, append-nil}
use Rattle.std.proofs.Common.{append_assoc}
use Rattle.std.specs.Prelude.{◌==◌, ◌≢◌}
use Rattle.std.specs.List.{AllByRecursion}
use Rattle.std.proofs.lemmas.Bool.{eqb-true}
use Rattle.spec_filters.specs.declared.FilterState.{FilterState}
use Rattle.spec_history.specs.History.{Entry, is_changed, latest_of, mine}
use Rattle.spec_history.specs.Kept.{IsFreshReply}
use Rattle.spec_history.proofs.Growing.{mine-snoc, latest_of-cons}
use Rattle.spec_serve.specs.Seen.{seen_from, seen_by}
use Rattle.spec_serve.proofs.Seen.{fresh_more, seen_more}
use Rattle.spec_tables.specs.Agrees.{Agrees}
use Rattle.spec_tables.specs.Tables.{HaveTables, expected_tables, filters_after, filters_along, tables_in}
use Rattle.spec_tables.proofs.Along.{filters_append}
use Rattle.xl_serve.specs.Standing.{SeatState, IsSeated}

-- ---- what was seen is there

one_more : (b : Bool) (now n : ℕ) → cond b (now + 1) now + n ≡ now + (cond b 1 0 + n)
one_more true now n = omega arith
one_more false now n = omega arith

one_up : (b : Bool) (now seen : ℕ) → seen ≤ now → seen ≤ cond b (now + 1) now
one_up true now seen le = omega (arith, le)
one_up false now seen le = le

at_most : (own : Bool) (then_is seen : ℕ) → seen ≤ then_is → cond own then_is seen ≤ then_is
at_most true then_is seen le = omega arith
at_most false then_is seen le = le

seen_within : (session now seen : ℕ) (es : List Entry) → seen ≤ now → seen_from session now seen es ≤ now + latest_of es
seen_within session now seen [] le = omega (arith, le)
seen_within session now seen (e ∷ es) le =
    let then_is = cond (is_changed e.reply) (now + 1) now in
    let same : then_is + latest_of es ≡ now + latest_of (e ∷ es) =
    one_more (is_changed e.reply) now (latest_of es) ∙ ap (λ n. now + n) (sym (latest_of-cons e es)) in
    let rest = seen_within session then_is (cond (e.session == session) then_is seen) es
    (at_most (e.session == session) then_is seen (one_up (is_changed e.reply) now seen le)) in
    omega (arith, same, rest)

-- a session has seen no version that is not there
pub seen_is_there : (es : List Entry) (session : ℕ) → seen_by es session ≤ latest_of es
seen_is_there es session =
    let within = seen_within session 0 0 es (omega arith) in omega (arith, within)

-- ---- an entry of another session

mine_none : (e : Entry) (session : ℕ) → e.session ≢ session → mine (e ∷ []) session ≡ []
mine_none e session apart = rw (ne_eqb e.session session apart) refl

mine_one : (e : Entry) (session : ℕ) → e.session ≡ session → mine (e ∷ []) session ≡ e ∷ []
mine_one e session own = rw (eq-eqb e.session session own) refl

other_mine : (es : List Entry) (e : Entry) (session : ℕ) → e.session ≢ session → mine es session ≡ mine (es ++ e ∷ []) session
other_mine es e session apart =
    sym (mine-snoc es e session ∙ ap (λ (own : List Entry). mine es session ++ own) (mine_none e session apart)
    ∙ append-nil (mine es session))

other_one : (filters : List FilterState) (es : List Entry) (e : Entry) (session : ℕ) (seat : SeatState) → e.session ≢ session
    → IsSeated filters es session seat → IsSeated filters (es ++ e ∷ []) session seat
other_one filters es e session seat apart is = record {
  fresh = fresh_more es e session is.fresh (λ q. absurd (apart (eqb-true e.session session q)));
  seen = is.seen
      ∙ sym (seen_more es e session
      ∙ ap (λ (b : Bool). cond b (latest_of (es ++ e ∷ [])) (seen_by es session)) (ne_eqb e.session session apart));
  tables = subst (HaveTables filters) (other_mine es e session apart) is.tables;
  agrees = subst (λ (own : List Entry). Agrees seat.chest (filters_along filters own)) (other_mine es e session apart) is.agrees;
}

pub others_stay : (filters : List FilterState) (es more : List Entry) (own session : ℕ) (seat : SeatState) → own ≢ session
    → AllByRecursion (λ (e : Entry). e.session ≡ own) more → IsSeated filters es session seat
    → IsSeated filters (es ++ more) session seat
others_stay filters es [] own session seat apart all is =
    subst (λ (l : List Entry). IsSeated filters l session seat) (sym (append-nil es)) is
others_stay filters es (e ∷ more) own session seat apart all is =
    subst (λ (l : List Entry). IsSeated filters l session seat) (append_assoc es (e ∷ []) more)
    (others_stay filters (es ++ e ∷ []) more own session seat apart all.1
    (other_one filters es e session seat (λ q. apart (sym all.0 ∙ q)) is))

-- ---- an entry of the session

tables_one : (filters : List FilterState) (es : List Entry) (e : Entry) → HaveTables filters es
    → tables_in e.kind ≡ expected_tables (filters_along filters es) e.kind e.reply → HaveTables filters (es ++ e ∷ [])
tables_one filters [] e have here = (here, tt)
tables_one filters (x ∷ es) e have here = (have.0, tables_one (filters_after filters x.kind x.reply) es e have.1 here)

pub own_one : (filters : List FilterState) (es : List Entry) (e : Entry) (session : ℕ) (before after : SeatState)
    → e.session ≡ session → IsFreshReply before.seen e.reply
    → tables_in e.kind ≡ expected_tables (filters_along filters (mine es session)) e.kind e.reply
    → Agrees after.chest (filters_after (filters_along filters (mine es session)) e.kind e.reply)
    → after.seen ≡ latest_of (es ++ e ∷ [])
    → IsSeated filters es session before → IsSeated filters (es ++ e ∷ []) session after
own_one filters es e session before after own fresh tables agrees seen is =
    let mine_is : mine es session ++ e ∷ [] ≡ mine (es ++ e ∷ []) session =
    sym (mine-snoc es e session ∙ ap (λ (l : List Entry). mine es session ++ l) (mine_one e session own)) in
    record {
      fresh = fresh_more es e session is.fresh (λ q. subst (λ n. IsFreshReply n e.reply) is.seen fresh);
      seen = seen
          ∙ sym (seen_more es e session
          ∙ ap (λ (b : Bool). cond b (latest_of (es ++ e ∷ [])) (seen_by es session)) (eq-eqb e.session session own));
      tables = subst (HaveTables filters) mine_is (tables_one filters (mine es session) e is.tables tables);
      agrees = subst (λ (l : List Entry). Agrees after.chest (filters_along filters l)) mine_is
          (subst (Agrees after.chest) (sym (filters_append filters (mine es session) (e ∷ []))) agrees);
    }

-- before the first entry
pub seated_none : (filters : List FilterState) (session : ℕ) (seat : SeatState) → seat.seen ≡ 0 → Agrees seat.chest filters
    → IsSeated filters [] session seat
seated_none filters session seat zero agrees = record { fresh = tt; seen = zero; tables = tt; agrees = agrees }
