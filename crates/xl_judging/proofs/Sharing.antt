-- The shares of versions that are wanted, one version after another.
use Rattle.std.proofs.Common.{◌≡◌, ℕ, zero, suc, ◌+◌, ◌<◌, ◌≤◌, Bool, true, false, cond, List, [], ◌∷◌, ◌++◌, length, refl, sym, ◌∙◌}
use Rattle.std.proofs.Common.{ap, subst, arith, inl, inr, length-append}
use Rattle.std.specs.Prelude.{◌⊎◌, Option, Some, None, nat_lt}
use Rattle.std.proofs.lemmas.Bool.{ltb-true, ltb-false}
use Rattle.std.proofs.lemmas.Bool.Decides.{eqb_tells}
use Rattle.spec_document.specs.Document.{Document}
use Rattle.spec_history.specs.Machine.{State, latest, document_at, initial}
use Rattle.xl_judging.specs.Versions.{is_wanted, share_at, with_share, HasVersions}

wanted_within : (wanted : List Bool) (v : ℕ) → is_wanted wanted v ≡ true → v < length wanted
wanted_within [] v is = let bad : false ≡ true = is in cc
wanted_within (b ∷ wanted) zero is = omega arith
wanted_within (b ∷ wanted) (suc v) is = let rest = wanted_within wanted v is in omega (arith, rest)

share_before : (shares : List (Option Document)) (x : Option Document) (v : ℕ) → v < length shares
    → share_at (shares ++ x ∷ []) v ≡ share_at shares v
share_before [] x v lt = absurd (omega (arith, lt))
share_before (y ∷ shares) x zero lt = refl
share_before (y ∷ shares) x (suc v) lt = share_before shares x v (omega (arith, lt))

share_last : (shares : List (Option Document)) (x : Option Document) → share_at (shares ++ x ∷ []) (length shares) ≡ x
share_last [] x = refl
share_last (y ∷ shares) x = share_last shares x

below_or_next : (v n : ℕ) → v ≤ n + 1 → (v ≤ n) ⊎ (v ≡ n + 1)
below_or_next v n le = elim (eqb_tells v (n + 1)) [
  | inl same ↦ inr same.1
  | inr other ↦ let ne : (v ≡ n + 1 → ⊥) = other.1 in inl (omega (arith, le, ne))
]

-- one version more
pub versions_step : (base : Document) (s t : State) (wanted : List Bool) (shares : List (Option Document)) (d : Document)
    → HasVersions base s wanted shares → latest t ≡ latest s + 1
    → ((v : ℕ) → v ≤ latest s → document_at base t v ≡ document_at base s v) → d ≡ document_at base t (latest t)
    → HasVersions base t wanted (with_share wanted d shares)
versions_step base s t wanted shares d has next same is = go (nat_lt (length shares) (length wanted)) refl where
  x : Option Document
  x = cond (is_wanted wanted (length shares)) (Some d) None

  old : (v : ℕ) → v ≤ latest s → is_wanted wanted v ≡ true → share_at shares v ≡ Some (document_at base t v)
  old v le want = has.each v le want ∙ ap (λ (e : Document). Some e) (sym (same v le))

  go : (b : Bool) → nat_lt (length shares) (length wanted) ≡ b → HasVersions base t wanted (cond b (shares ++ x ∷ []) shares)
  go true lt =
      let below = ltb-true (length shares) (length wanted) lt in
      let reach = has.reach in
      let full : length shares ≡ latest s + 1 = omega (arith, below, reach) in
      let more = length-append shares (x ∷ []) in
      record {
        reach = omega (arith, more, full, below, next);
        each = λ v le want. elim (below_or_next v (latest s) (omega (arith, le, next))) [
          | inl low ↦ share_before shares x v (omega (arith, low, full)) ∙ old v low want
          | inr last ↦
              let at : v ≡ length shares = omega (arith, last, full) in
              let here : is_wanted wanted (length shares) ≡ true = ap (is_wanted wanted) (sym at) ∙ want in
              let now : latest t ≡ v = omega (arith, next, last) in
              ap (share_at (shares ++ x ∷ [])) at ∙ (share_last shares x
              ∙ (ap (λ (b : Bool). cond b (Some d) None) here ∙ ap (λ (e : Document). Some e) (is ∙ ap (document_at base t) now)))
        ];
      }
  go false past =
      let above = ltb-false (length shares) (length wanted) past in
      let reach = has.reach in
      record {
        reach = omega (arith, above, reach, next);
        each = λ v le want. let inside = wanted_within wanted v want in old v (omega (arith, inside, above, reach)) want;
      }

-- no version more
pub versions_stay : (base : Document) (s t : State) (wanted : List Bool) (shares : List (Option Document))
    → HasVersions base s wanted shares → latest t ≡ latest s
    → ((v : ℕ) → v ≤ latest s → document_at base t v ≡ document_at base s v) → HasVersions base t wanted shares
versions_stay base s t wanted shares has still same =
    let reach = has.reach in
    record {
      reach = omega (arith, reach, still);
      each = λ v le want.
          let low : v ≤ latest s = omega (arith, le, still) in
          has.each v low want ∙ ap (λ (e : Document). Some e) (sym (same v low));
    }

-- the first version
pub versions_begin : (base : Document) (wanted : List Bool) → HasVersions base (initial base) wanted (with_share wanted base [])
versions_begin base wanted = go (nat_lt 0 (length wanted)) refl where
  x : Option Document
  x = cond (is_wanted wanted 0) (Some base) None

  go : (b : Bool) → nat_lt 0 (length wanted) ≡ b → HasVersions base (initial base) wanted (cond b ([] ++ x ∷ []) [])
  go true lt =
      let below = ltb-true 0 (length wanted) lt in
      record {
        reach = omega (arith, below);
        each = λ v le want.
            let first : v ≡ 0 = omega (arith, le) in
            let P : ℕ → Type 0 = λ n. share_at (x ∷ []) n ≡ Some (document_at base (initial base) n) in
            let here : is_wanted wanted 0 ≡ true = ap (is_wanted wanted) (sym first) ∙ want in
            subst P (sym first) (ap (λ (b : Bool). cond b (Some base) None) here);
      }
  go false past =
      let above = ltb-false 0 (length wanted) past in
      record {
        reach = omega (arith, above);
        each = λ v le want. let inside = wanted_within wanted v want in absurd (omega (arith, inside, above));
      }
