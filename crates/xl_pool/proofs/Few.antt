-- Stacks in order that are all in a list are no more than this has numbers.
use Rattle.std.proofs.Common.{◌≡◌, ℕ, suc, ◌<◌, ◌≤◌, Bool, true, false, cond, not, ◌||◌, ◌==◌, nat_lt, List, [], ◌∷◌}
use Rattle.std.proofs.Common.{length, filter, refl, sym, ◌∙◌, ap, arith, true≢false}
use Rattle.std.specs.Prelude.{Some, is_some, option_map, find}
use Rattle.std.specs.List.{AllByRecursion}
use Rattle.std.proofs.lemmas.Bool.{eqb-true, ne_eqb}
use Rattle.spec_cache.specs.Cache.{Held, AreInOrder, slots_in, put_in}
use Rattle.spec_world.proofs.Filled.{eq-swap}
use Rattle.spec_world.proofs.Stacks.{has_id}

abbrev without : ℕ → List ℕ → List ℕ
without x ids = filter (λ k. not (k == x)) ids

no-longer : (x : ℕ) (ids : List ℕ) → length (without x ids) ≤ length ids
no-longer x [] = omega arith
no-longer x (k ∷ ks) = go (k == x) (no-longer x ks)
  where
    go : (b : Bool) → length (without x ks) ≤ length ks → length (cond (not b) (k ∷ without x ks) (without x ks)) ≤ suc (length ks)
    go true le = omega (arith, le)
    go false le = omega (arith, le)

shorter : (x : ℕ) (ids : List ℕ) → has_id x ids ≡ true → suc (length (without x ids)) ≤ length ids
shorter x [] e = absurd (true≢false (sym e))
shorter x (k ∷ ks) e = go (k == x) e (shorter x ks)
  where
    go : (b : Bool) → (b || has_id x ks) ≡ true → (has_id x ks ≡ true → suc (length (without x ks)) ≤ length ks)
        → suc (length (cond (not b) (k ∷ without x ks) (without x ks))) ≤ suc (length ks)
    go true h more = omega (arith, no-longer x ks)
    go false h more = omega (arith, more h)

stays : (x y : ℕ) (ids : List ℕ) → (y == x) ≡ false → has_id y ids ≡ true → has_id y (without x ids) ≡ true
stays x y [] other e = absurd (true≢false (sym e))
stays x y (k ∷ ks) other e = go (k == x) (k == y) refl refl e (stays x y ks other)
  where
    go : (b c : Bool) → (k == x) ≡ b → (k == y) ≡ c → (c || has_id y ks) ≡ true
        → (has_id y ks ≡ true → has_id y (without x ks) ≡ true)
        → has_id y (cond (not b) (k ∷ without x ks) (without x ks)) ≡ true
    go true true p q h more = absurd (true≢false (sym p ∙ (ap (λ n. n == x) (eqb-true k y q) ∙ other)))
    go true false p q h more = more h
    go false true p q h more = ap (λ c. c || has_id y (without x ks)) q
    go false false p q h more = ap (λ c. c || has_id y (without x ks)) q ∙ more h

others : (x : ℕ) (ids : List ℕ) (hs : List Held) → AllByRecursion (λ k. x < k.stack) hs
    → AllByRecursion (λ k. has_id k.stack ids ≡ true) hs
    → AllByRecursion (λ k. has_id k.stack (without x ids) ≡ true) hs
others x ids [] above all = tt
others x ids (h ∷ hs) above all =
    let lt = above.0 in
    (stays x h.stack ids (ne_eqb h.stack x (λ e. omega (arith, e, lt))) all.0, others x ids hs above.1 all.1)

pub few-held : (held : List Held) (ids : List ℕ) → AreInOrder held → AllByRecursion (λ h. has_id h.stack ids ≡ true) held
    → length held ≤ length ids
few-held [] ids order all = omega arith
few-held (h ∷ hs) ids order all =
    omega (arith, few-held hs (without h.stack ids) order.1 (others h.stack ids hs order.0 all.1), shorter h.stack ids all.0)

-- a stack that is put in is one more
pub put-longer : (h : Held) (held : List Held) → is_some (slots_in held h.stack) ≡ false
    → length (put_in h held) ≡ suc (length held)
put-longer h [] e = refl
put-longer h (k ∷ ks) e =
    go (nat_lt h.stack k.stack) (h.stack == k.stack) (k.stack == h.stack) (eq-swap h.stack k.stack) e (put-longer h ks)
  where
    go : (b c d : Bool) → c ≡ d → is_some (option_map (λ x. x.slots) (cond d (Some k) (find (λ x. x.stack == h.stack) ks))) ≡ false
        → (is_some (slots_in ks h.stack) ≡ false → length (put_in h ks) ≡ suc (length ks))
        → length (cond b (h ∷ k ∷ ks) (cond c (h ∷ ks) (k ∷ put_in h ks))) ≡ suc (suc (length ks))
    go true c d p q more = refl
    go false true true p q more = absurd (true≢false q)
    go false true false p q more = absurd (true≢false p)
    go false false true p q more = absurd (true≢false (sym p))
    go false false false p q more = ap suc (more q)
